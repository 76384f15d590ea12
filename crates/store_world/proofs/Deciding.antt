-- Whether a pair is right can be decided: of the keys that it may be an entry of there are finitely many. And so the truth of a run can be found.
use Rattle.std.proofs.Common.{◌≡◌, inl, inr, ℕ, zero, suc, ◌+◌, ◌<◌, ◌≤◌, Bool, true, false, List, [], ◌∷◌, ◌++◌, length, take, drop, Some, None, Ok, Err, Result, refl, sym, ap, subst, ◌∙◌, arith, length-append, length-drop}
use Rattle.std.specs.Prelude.{nat_le, nat_lt, not, ◌&&◌, ◌||◌, if◌then◌else◌}
use Rattle.std.specs.Int.{w32, to_le_bytes}
use Rattle.std.specs.declared.option.Option.{Option}
use Rattle.std.specs.FinMap.{get}
use Rattle.std.specs.List.{list_all}
use Rattle.std.specs.Str.{bytes_eq}
use Rattle.std.proofs.lemmas.Bool.{ltb-true, ltb-false, leb-true, le-leb, and_parts, and_from}
use Rattle.std.proofs.lemmas.List.{append_assoc, append-nil, drop_at, take_at}
use Rattle.outside.specs.Content.{Contents}
use Rattle.outside.specs.Files.{Folder, FolderHistory}
use Rattle.bitmap_kind.specs.Picture.{Picture}
use Rattle.bitmap_kind.specs.declared.bitmaps.Config.{Config}
use Rattle.bitmap_kind.specs.declared.bitmaps.Config.TheVariants.{Argb8888, Rgb565, Alpha8}
use Rattle.bitmap_kind.specs.declared.bitmaps.Transform.{Transform}
use Rattle.bitmap_kind.specs.declared.bitmaps.Transform.TheVariants as transforms
use Rattle.bitmap_kind.specs.declared.bitmaps.Rule.{Rule}
use Rattle.bitmap_kind.specs.declared.bitmaps.Rule.TheVariants.{AtLeast, AtMost}
use Rattle.cache_key.specs.declared.bytes.Which.{Which}
use Rattle.cache_key.specs.declared.bytes.Which.TheVariants.{SourceBytes, Outcome}
use Rattle.cache_key.specs.Key.{Key, IsKey}
use Rattle.cache_key.specs.KeyBytes.{address_of, choice_bytes, key_bytes_of}
use Rattle.image_format.specs.declared.refusal.Refusal.{Refusal}
use Rattle.image_format.specs.Content.{picture_in}
use Rattle.image_format.specs.RawForm.{raw_text}
use Rattle.cache_folder.specs.Offered.{offered}
use Rattle.disk_lru.specs.Past.{is_pair}
use Rattle.store_world.specs.Envelopes.{envelope}
use Rattle.store_world.specs.Right.{Pair, IsPayload, entry_of, IsRight, AreRight, OffersRight, HoldsRightIn, IsTruth, IsTruthOf, IsDecided}
use Rattle.store_world.specs.Truth.{is_key, is_text, is_raw, is_payload, Guess, key_in, payload_in, is_right_for, each_below, each_which, each_transform, each_config, each_rule, each_guess, is_right, offers_right, truth_of}
use Rattle.store_world.proofs.Tables.{same_if, true_if}
use Rattle.store_world.proofs.Allowed.{some_folder}
use Rattle.store_world.proofs.Entries.{unfolded, drop_front}

-- ---- tests

-- a test is true just where this holds
abbrev Answers : Bool → Type 0 → Type 0
Answers test P = (test ≡ true → P) × (P → test ≡ true)

both : (p q : Bool) (P Q : Type 0) → Answers p P → Answers q Q → Answers (p && q) (P × Q)
both p q P Q x y = (λ e. let parts = and_parts p q e in (x.0 parts.0, y.0 parts.1), λ h. and_from p q (x.1 h.0) (y.1 h.1))

if_then : (p q : Bool) (P Q : Type 0) → Answers p P → Answers q Q → Answers (not p || q) (P → Q)
if_then true q P Q x y = (λ e h. y.0 e, λ f. y.1 (f (x.0 refl)))
if_then false q P Q x y = (λ e h. let bad : false ≡ true = x.1 h in cc, λ f. refl)

below : (P : ℕ → Type 0) (test : ℕ → Bool) (n : ℕ) → ((i : ℕ) → Answers (test i) (P i)) → Answers (each_below n test) ((i : ℕ) → i < n → P i)
unfolding each_below
below P test zero each = (λ e i lt. absurd (omega (arith, lt)), λ all. refl)
below P test (suc n) each =
    let rest = below P test n each in (
      λ e i lt. let parts = and_parts (test n) (each_below n test) e in one (rest.0 parts.1) ((each n).0 parts.0) i lt,
      λ all. and_from (test n) (each_below n test) ((each n).1 (all n (omega arith))) (rest.1 (λ k lt. all k (omega (arith, lt)))),
    ) where
      small : (i : ℕ) → nat_lt i n ≡ true → i < n
      small i t = ltb-true i n t

      last : (i : ℕ) → nat_lt i n ≡ false → i < suc n → n ≡ i
      last i t lt = omega (arith, ltb-false i n t, lt)

      one : ((k : ℕ) → k < n → P k) → P n → (i : ℕ) → i < suc n → P i
      one before here i lt = elim (nat_lt i n) as (λ b. nat_lt i n ≡ b → P i) [
        | true ↦ λ t. before i (small i t)
        | false ↦ λ t. subst P (last i t lt) here
      ] refl

all_kinds : (P : Which → Type 0) (test : Which → Bool) → ((w : Which) → Answers (test w) (P w)) → Answers (each_which test) ((w : Which) → P w)
unfolding each_which
all_kinds P test each = (
  λ e. let p = and_parts (test SourceBytes) (test Outcome) e in two ((each SourceBytes).0 p.0) ((each Outcome).0 p.1),
  λ all. and_from (test SourceBytes) (test Outcome) ((each SourceBytes).1 (all SourceBytes)) ((each Outcome).1 (all Outcome)),
) where
  two : P SourceBytes → P Outcome → (w : Which) → P w
  two a b SourceBytes = a
  two a b Outcome = b

all_rules : (P : Rule → Type 0) (test : Rule → Bool) → ((r : Rule) → Answers (test r) (P r)) → Answers (each_rule test) ((r : Rule) → P r)
unfolding each_rule
all_rules P test each = (
  λ e. let p = and_parts (test AtLeast) (test AtMost) e in two ((each AtLeast).0 p.0) ((each AtMost).0 p.1),
  λ all. and_from (test AtLeast) (test AtMost) ((each AtLeast).1 (all AtLeast)) ((each AtMost).1 (all AtMost)),
) where
  two : P AtLeast → P AtMost → (r : Rule) → P r
  two a b AtLeast = a
  two a b AtMost = b

all_configs : (P : Config → Type 0) (test : Config → Bool) → ((c : Config) → Answers (test c) (P c)) → Answers (each_config test) ((c : Config) → P c)
unfolding each_config
all_configs P test each = (
  λ e.
      let p = and_parts (test Argb8888) (test Rgb565 && test Alpha8) e in
      let q = and_parts (test Rgb565) (test Alpha8) p.1 in
      three ((each Argb8888).0 p.0) ((each Rgb565).0 q.0) ((each Alpha8).0 q.1),
  λ all. and_from (test Argb8888) (test Rgb565 && test Alpha8) ((each Argb8888).1 (all Argb8888))
      (and_from (test Rgb565) (test Alpha8) ((each Rgb565).1 (all Rgb565)) ((each Alpha8).1 (all Alpha8))),
) where
  three : P Argb8888 → P Rgb565 → P Alpha8 → (c : Config) → P c
  three a b c Argb8888 = a
  three a b c Rgb565 = b
  three a b c Alpha8 = c

all_transforms : (P : Transform → Type 0) (test : Transform → Bool) → ((t : Transform) → Answers (test t) (P t)) → Answers (each_transform test) ((t : Transform) → P t)
unfolding each_transform
all_transforms P test each = (
  λ e.
      let p = and_parts (test transforms.Nothing) (test transforms.Fit && (test transforms.Crop && test transforms.Inside)) e in
      let q = and_parts (test transforms.Fit) (test transforms.Crop && test transforms.Inside) p.1 in
      let r = and_parts (test transforms.Crop) (test transforms.Inside) q.1 in
      four ((each transforms.Nothing).0 p.0) ((each transforms.Fit).0 q.0) ((each transforms.Crop).0 r.0) ((each transforms.Inside).0 r.1),
  λ all. and_from (test transforms.Nothing) (test transforms.Fit && (test transforms.Crop && test transforms.Inside)) ((each transforms.Nothing).1 (all transforms.Nothing))
      (and_from (test transforms.Fit) (test transforms.Crop && test transforms.Inside) ((each transforms.Fit).1 (all transforms.Fit))
      (and_from (test transforms.Crop) (test transforms.Inside) ((each transforms.Crop).1 (all transforms.Crop)) ((each transforms.Inside).1 (all transforms.Inside)))),
) where
  four : P transforms.Nothing → P transforms.Fit → P transforms.Crop → P transforms.Inside → (t : Transform) → P t
  four a b c d transforms.Nothing = a
  four a b c d transforms.Fit = b
  four a b c d transforms.Crop = c
  four a b c d transforms.Inside = d

-- ---- keys and payloads

at_most : (m n : ℕ) → Answers (nat_le m n) (m ≤ n)
at_most m n = (leb-true m n, le-leb m n)

key_test : (key : Key) → Answers (is_key key) (IsKey key)
key_test key =
    let all = both _ _ _ _ (at_most (length key.url) 1024) (both _ _ _ _ (at_most (length key.sig) 64)
    (both _ _ _ _ (at_most 1 key.width) (both _ _ _ _ (at_most 1 key.height) (both _ _ _ _ (at_most key.width 16384) (at_most key.height 16384))))) in (
      λ e. let k = all.0 e in record { url = k.0; sig = k.1.0; wide = k.1.1.0; high = k.1.1.1.0; width = k.1.1.1.1.0; height = k.1.1.1.1.1 },
      λ k. all.1 (k.url, (k.sig, (k.wide, (k.high, (k.width, k.height))))),
    )

same_pair : (p q : Pair) → Answers (is_pair p q) (p ≡ q)
same_pair p q = (
  λ e. let parts = and_parts (bytes_eq p.0 q.0) (bytes_eq p.1 q.1) e in λ i. (sym (same_if q.0 p.0 parts.0) i, sym (same_if q.1 p.1 parts.1) i),
  λ e. and_from (bytes_eq p.0 q.0) (bytes_eq p.1 q.1) (true_if q.0 p.0 (sym (ap (λ (x : Pair). x.0) e))) (true_if q.1 p.1 (sym (ap (λ (x : Pair). x.1) e))),
)

some_text : (a b : List ℕ) → Some a ≡ Some b → a ≡ b
some_text a b e = cc

text_test : (payload : List ℕ) (o : Option (List ℕ)) → Answers (is_text payload o) (o ≡ Some payload)
text_test payload None = (λ e. cc, λ e. cc)
text_test payload (Some text) = (λ e. ap Some (same_if text payload e), λ e. true_if text payload (some_text text payload e))

abbrev IsRawOf : Option (Result Picture Refusal) → List ℕ → Type 0
IsRawOf o payload = (picture : Picture) × (o ≡ Some (Ok picture)) × (payload ≡ raw_text picture)

one_picture : (a b : Picture) (o : Option (Result Picture Refusal)) → o ≡ Some (Ok a) → o ≡ Some (Ok b) → a ≡ b
one_picture a b o x y = cc

raw_test : (payload : List ℕ) (o : Option (Result Picture Refusal)) → Answers (is_raw payload o) (IsRawOf o payload)
raw_test payload None = (λ e. let bad : false ≡ true = e in cc, λ x. let bad = x.1 in cc)
raw_test payload (Some (Err refusal)) = (λ e. let bad : false ≡ true = e in cc, λ x. let bad = x.1 in cc)
raw_test payload (Some (Ok picture)) = (
  λ e. (picture, refl, sym (same_if (raw_text picture) payload e)),
  λ x. true_if (raw_text picture) payload (ap raw_text (one_picture picture x.0 (Some (Ok picture)) refl x.1) ∙ sym x.2),
)

payload_test : (content : Contents) (which : Which) (key : Key) (payload : List ℕ) → Answers (is_payload content which key payload) (IsPayload content which key payload)
payload_test content SourceBytes key payload = text_test payload (get content (address_of key))
payload_test content Outcome key payload = raw_test payload (picture_in content key)

-- ---- guesses

abbrev guess_of : Which → ℕ → ℕ → ℕ → ℕ → ℕ → Transform → Config → Rule → Guess
guess_of which bytes url sig width height transform config rule = record {
  which = which;
  bytes = bytes;
  url = url;
  sig = sig;
  width = width;
  height = height;
  transform = transform;
  config = config;
  rule = rule;
}

abbrev EachGuess : ℕ → (Guess → Type 0) → Type 0
EachGuess size P = (which : Which) (bytes : ℕ) → bytes < size → (url : ℕ) → url < size → (sig : ℕ) → sig < size → (width : ℕ) → width < 16385 → (height : ℕ) → height < 16385
    → (transform : Transform) (config : Config) (rule : Rule) → P (guess_of which bytes url sig width height transform config rule)

all_guesses : (P : Guess → Type 0) (test : Guess → Bool) (size : ℕ) → ((g : Guess) → Answers (test g) (P g)) → Answers (each_guess size test) (EachGuess size P)
all_guesses P test size each =
    all_kinds _ _ (λ which. below _ _ size (λ bytes. below _ _ size (λ url. below _ _ size (λ sig. below _ _ 16385 (λ width. below _ _ 16385 (λ height.
    all_transforms _ _ (λ transform. all_configs _ _ (λ config. all_rules _ _ (λ rule. each (guess_of which bytes url sig width height transform config rule))))))))))

-- the pair is right as far as it is an entry of this key
abbrev RightFor : Contents → Pair → Guess → Type 0
RightFor content pair guess =
    IsKey (key_in guess pair.1) × (pair ≡ entry_of guess.which (key_in guess pair.1) (payload_in guess pair.1))
    → IsPayload content guess.which (key_in guess pair.1) (payload_in guess pair.1)

right_for : (content : Contents) (pair : Pair) (guess : Guess) → Answers (is_right_for content pair guess) (RightFor content pair guess)
right_for content pair guess =
    let key = key_in guess pair.1 in
    let payload = payload_in guess pair.1 in
    if_then _ _ _ _ (both _ _ _ _ (key_test key) (same_pair pair (entry_of guess.which key payload))) (payload_test content guess.which key payload)

-- ---- each key that a pair is an entry of is one of these

regrouped : (u W s w h c : List ℕ) → u ++ (W ++ s) ++ w ++ h ++ c ≡ u ++ (W ++ (s ++ (w ++ (h ++ c))))
regrouped u W s w h c =
    append_assoc (u ++ (W ++ s) ++ w) h c ∙ append_assoc (u ++ (W ++ s)) w (h ++ c) ∙ append_assoc u (W ++ s) (w ++ (h ++ c)) ∙ ap (λ l. u ++ l) (append_assoc W s (w ++ (h ++ c)))

-- what stands behind the texts of key bytes
abbrev rest_of : Which → Key → List ℕ
rest_of SourceBytes key = []
rest_of Outcome key = to_le_bytes w32 key.width ++ (to_le_bytes w32 key.height ++ choice_bytes key)

texts_in : (which : Which) (key : Key) → drop 5 (key_bytes_of which key) ≡ key.url ++ (to_le_bytes w32 (length key.sig) ++ (key.sig ++ rest_of which key))
texts_in SourceBytes key = ap (λ l. key.url ++ (to_le_bytes w32 (length key.sig) ++ l)) (sym (append-nil key.sig))
texts_in Outcome key = regrouped key.url (to_le_bytes w32 (length key.sig)) key.sig (to_le_bytes w32 key.width) (to_le_bytes w32 key.height) (choice_bytes key)

-- the guess that is true of a key
abbrev guess_at : Which → Key → Guess
guess_at which key = guess_of which (length (key_bytes_of which key)) (length key.url) (length key.sig) key.width key.height key.transform key.config key.rule

-- what is found in key bytes
abbrev found_in : Guess → List ℕ → Key
found_in guess bytes = record {
  url = take guess.url (drop 5 bytes);
  sig = take guess.sig (drop (guess.url + 4) (drop 5 bytes));
  width = guess.width;
  height = guess.height;
  transform = guess.transform;
  config = guess.config;
  rule = guess.rule;
}

key_found : (which : Which) (key : Key) → found_in (guess_at which key) (key_bytes_of which key) ≡ key
key_found which key =
    let words = to_le_bytes w32 (length key.sig) in
    let rest = key.sig ++ rest_of which key in
    let url : take (length key.url) (drop 5 (key_bytes_of which key)) ≡ key.url = ap (take (length key.url)) (texts_in which key) ∙ take_at key.url (words ++ rest) (length key.url) refl in
    let joined : drop 5 (key_bytes_of which key) ≡ (key.url ++ words) ++ rest = texts_in which key ∙ sym (append_assoc key.url words rest) in
    let four : length words ≡ 4 = refl in
    let long : length (key.url ++ words) ≡ length key.url + 4 = omega (arith, length-append key.url words, four) in
    let behind : drop (length key.url + 4) (drop 5 (key_bytes_of which key)) ≡ rest = ap (drop (length key.url + 4)) joined ∙ drop_at (key.url ++ words) rest (length key.url + 4) long in
    let sig : take (length key.sig) (drop (length key.url + 4) (drop 5 (key_bytes_of which key))) ≡ key.sig = ap (take (length key.sig)) behind ∙ take_at key.sig (rest_of which key) (length key.sig) refl in
    λ i. record { url = url i; sig = sig i; width = key.width; height = key.height; transform = key.transform; config = key.config; rule = key.rule }

bytes_found : (bytes payload : List ℕ) → take (length bytes) (drop 8 (envelope bytes payload)) ≡ bytes
bytes_found bytes payload =
    ap (λ t. take (length bytes) (drop 8 t)) (unfolded bytes payload) ∙ take_at bytes (to_le_bytes w32 (length payload) ++ payload) (length bytes) refl

-- its parts are shorter than the text
bytes_short : (bytes payload : List ℕ) → length bytes < length (envelope bytes payload)
bytes_short bytes payload = omega (arith, ap length (unfolded bytes payload), length-append bytes (to_le_bytes w32 (length payload) ++ payload))

texts_short : (which : Which) (key : Key) → (length key.url ≤ length (key_bytes_of which key)) × (length key.sig ≤ length (key_bytes_of which key))
texts_short which key =
    let words = to_le_bytes w32 (length key.sig) in
    let rest = rest_of which key in
    let all = ap length (texts_in which key) in
    let a = length-append key.url (words ++ (key.sig ++ rest)) in
    let b = length-append words (key.sig ++ rest) in
    let c = length-append key.sig rest in
    let d = length-drop 5 (key_bytes_of which key) in
    (omega (arith, all, a, b, c, d), omega (arith, all, a, b, c, d))

all_right : (content : Contents) (pair : Pair) → EachGuess (length pair.1) (RightFor content pair) → IsRight content pair
all_right content pair each which key payload is same =
    let bytes = key_bytes_of which key in
    let n = length bytes in
    let guess = guess_at which key in
    let text : pair.1 ≡ envelope bytes payload = ap (λ (p : Pair). p.1) same in
    let bytes_are : take n (drop 8 pair.1) ≡ bytes = ap (λ t. take n (drop 8 t)) text ∙ bytes_found bytes payload in
    let key_is : key_in guess pair.1 ≡ key = ap (found_in guess) bytes_are ∙ key_found which key in
    let payload_is : payload_in guess pair.1 ≡ payload = ap (payload_in guess) text ∙ drop_front bytes payload in
    let size = ap length text in
    let whole = bytes_short bytes payload in
    let short = texts_short which key in
    let here = each which n (omega (arith, size, whole)) (length key.url) (omega (arith, size, whole, short.0)) (length key.sig) (omega (arith, size, whole, short.1)) key.width (omega (arith, is.width)) key.height (omega (arith, is.height)) key.transform key.config key.rule in
    subst (λ k. IsPayload content which k payload) key_is (subst (IsPayload content which (key_in guess pair.1)) payload_is
    (here (subst IsKey (sym key_is) is, same ∙ sym (λ i. entry_of which (key_is i) (payload_is i)))))

pair_test : (content : Contents) (pair : Pair) → Answers (is_right content pair) (IsRight content pair)
unfolding is_right
pair_test content pair =
    let all = all_guesses (RightFor content pair) (is_right_for content pair) (length pair.1) (right_for content pair) in (
      λ e. all_right content pair (all.0 e),
      λ right. all.1 (λ which bytes bytes_lt url url_lt sig sig_lt width width_lt height height_lt transform config rule is.
          let guess = guess_of which bytes url sig width height transform config rule in
          right which (key_in guess pair.1) (payload_in guess pair.1) is.0 is.1),
    )

list_test : (content : Contents) (pairs : List Pair) → Answers (list_all (is_right content) pairs) (AreRight content pairs)
list_test content [] = (λ e. tt, λ all. refl)
list_test content (p ∷ pairs) = both _ _ _ _ (pair_test content p) (list_test content pairs)

folder_test : (content : Contents) (folder : Folder) → Answers (offers_right content folder) (OffersRight content folder)
folder_test content folder = list_test content (offered folder)

decided : (test : Bool) (P : Type 0) → Answers test P → IsDecided P
decided true P x = inl (x.0 refl)
decided false P x = inr (λ p. let bad : false ≡ true = x.1 p in cc)

pub decided_folder : (content : Contents) (folder : Folder) → IsDecided (OffersRight content folder)
decided_folder content folder = decided (offers_right content folder) (OffersRight content folder) (folder_test content folder)

-- ---- the truth of a run

some_content : (c d : Contents) → Some c ≡ Some d → c ≡ d
some_content c d e = cc

pub truth_is : (told : Option Contents) (files : Option FolderHistory) → IsTruthOf told files (truth_of told files)
truth_is None files content = (λ e. cc, λ truth. let bad = truth.told_is in cc)
truth_is (Some told) None content = (λ e. cc, λ truth. let bad = truth.holds.known in cc)
truth_is (Some told) (Some history) content = by_test (offers_right told history.held) refl where
  by_test : (test : Bool) → offers_right told history.held ≡ test
      → ((if test then Some told else None) ≡ Some content → IsTruth (Some told) (Some history) content) × (IsTruth (Some told) (Some history) content → (if test then Some told else None) ≡ Some content)
  by_test true is = (
    λ e. record { told_is = e; holds = record { history = history; known = refl; right = subst (λ c. OffersRight c history.held) (some_content told content e) ((folder_test told history.held).0 is) } },
    λ truth. truth.told_is,
  )
  by_test false is = (
    λ e. cc,
    λ truth.
        let right = subst (λ c. OffersRight c history.held) (sym (some_content told content truth.told_is))
        (subst (λ (j : FolderHistory). OffersRight content j.held) (some_folder truth.holds.history history (sym truth.holds.known)) truth.holds.right) in
        let bad : false ≡ true = sym is ∙ (folder_test told history.held).1 right in
        cc,
  )

pub truth_holds : (told : Option Contents) (files : Option FolderHistory) → HoldsRightIn (truth_of told files) files
truth_holds None files = tt
truth_holds (Some told) None = tt
truth_holds (Some told) (Some history) = by_test (offers_right told history.held) refl where
  by_test : (test : Bool) → offers_right told history.held ≡ test → HoldsRightIn (if test then Some told else None) (Some history)
  by_test true is = record { history = history; known = refl; right = (folder_test told history.held).0 is }
  by_test false is = tt
