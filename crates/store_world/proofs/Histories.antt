-- What a store opens with is sound, and so is what each legal history leads to; and runs on one folder.
use Rattle.std.proofs.Common.{◌≡◌, ℕ, zero, suc, ◌<◌, true, false, cond, eqb, List, [], ◌∷◌, ◌++◌, length, take, Some, None, refl, sym, ap, subst, ◌∙◌, arith, Bool}
use Rattle.std.specs.Prelude.{is_some, get_or, ⊤, ◌||◌}
use Rattle.std.specs.declared.option.Option.{Option}
use Rattle.std.specs.Option.{option_map}
use Rattle.std.specs.List.{AllByRecursion}
use Rattle.std.proofs.lemmas.Bool.{eqb-true, eq-eqb, false_from_ne_true}
use Rattle.std.proofs.lemmas.List.{append_assoc, append-nil, append_cancel_left}
use Rattle.outside.specs.Content.{Contents}
use Rattle.outside.specs.Files.{Folder, FolderHistory, last_of, passed_through}
use Rattle.state_machine.specs.declared.entry.Entry.{Entry}
use Rattle.state_machine.specs.declared.machine.Machine.{Ghosts}
use Rattle.state_machine.specs.Histories.{entry, own}
use Rattle.state_machine.specs.Legal.{Leads, IsLegal}
use Rattle.disk_table.specs.UseOrder.{Entries}
use Rattle.disk_table.specs.Table.{edit_of}
use Rattle.cache_folder.specs.Offered.{offered}
use Rattle.cache_folder.specs.Images.{IfKnown, Runs}
use Rattle.cache_folder.specs.Sound.{listed}
use Rattle.cache_folder.specs.Tables.{mapped, kept_by}
use Rattle.cache_folder.specs.Allowed.{Pass, IsWithin, values_of}
use Rattle.disk_lru.specs.State.{entries, edits}
use Rattle.disk_lru.specs.Past.{is_among, is_pair}
use Rattle.disk_lru.specs.Calls.{StaysWithin}
use Rattle.store_world.specs.declared.events.StoreEvent.{StoreEvent}
use Rattle.store_world.specs.declared.events.StoreReply.{StoreReply}
use Rattle.store_world.specs.declared.events.Note.{Note}
use Rattle.store_world.specs.Right.{Pair, IsRight, AreRight, OffersRight, HoldsRight, HoldsRightIn}
use Rattle.store_world.specs.World.{Request, World, request_of}
use Rattle.store_world.specs.Steps.{Step}
use Rattle.store_world.specs.Knowledge.{Knowledge, no_knowledge, updated, updated_by, learned, knowledge_in, knowledge_with}
use Rattle.store_world.specs.Permits.{Permits}
use Rattle.store_world.specs.Sound.{one_if, seat_count, taken, keys_under_edit, IsSeated, IsOrderly, IsHolding, open_at, open_count, IsRightDisk, IsRightStore, Sound}
use Rattle.store_world.specs.StoreMachine.{IsOpening, BeganRight, store_machine}
use Rattle.store_world.specs.Laws.{SameSettings, handed_by_event, PassesRight}
use Rattle.store_world.specs.Histories.{OwnEntriesTell, OthersLearnNothing, committed_after, committed_in, AlwaysSound, StaysSound, AlwaysOff, AlwaysRight, AlwaysGiven, IsRun, RunsStayRight}
use Rattle.store_world.proofs.Allowed.{some_folder, runs_then, runs_weaken, among_has, all_among, all_front, all_back, allows_same, weaken}
use Rattle.store_world.proofs.Quiet.{closed_kept}
use Rattle.store_world.proofs.EventLaws.{event_law}
use Rattle.store_world.proofs.Within.{event_allows, right_still, right_law}
use Rattle.store_world.proofs.Settings.{settings_law}
use Rattle.store_world.proofs.Off.{off_law}

-- ---- the opening

no_keys_open : (es : List (Option (List ℕ))) (written : List ℕ) (t : Entries (Option ℕ)) → ((key : List ℕ) → edit_of key es ≡ None) → keys_under_edit (mapped (kept_by es written) t) ≡ 0
no_keys_open es written [] none = refl
no_keys_open es written (e ∷ t) none = omega (arith, ap (λ (o : Option ℕ). one_if (is_some (option_map (λ number. get_or written number 0) o))) (none e.0), no_keys_open es written t none)

none_open : (w : World) → w.requests ≡ [] → (key : List ℕ) → open_at key w.requests ≡ None
none_open w empty key = ap (open_at key) empty

opening_right : (content : Contents) (before : Option FolderHistory) (w : World) → IsOpening (Some content) before w → (holds : HoldsRight content before)
    → IsRightDisk content w.disk × Runs (OffersRight content) holds.history w.disk.cache.history
opening_right content before w o holds =
    let h = holds.history in
    let back : (xs : List Pair) → Pass (is_among (offered h.held)) xs → AreRight content xs = λ xs a. weaken _ (IsRight content) (λ p e. among_has (IsRight content) p (offered h.held) holds.right e) xs a in
    let runs = runs_weaken (λ c. Pass (is_among (offered h.held)) (offered c)) (OffersRight content) (λ c a. back (offered c) a) h w.disk.cache.history (o.moments h holds.known) in
    let after = passed_through runs.contents h in
    (record { holds = record { history = after; known = runs.after_is; right = runs.here }; keeps = back (values_of (listed after.held (entries w.disk.cache))) (o.keeps h holds.known after runs.after_is) }, runs)

right_at_opening : (content : Option Contents) (before : Option FolderHistory) (w : World) → IsOpening content before w → HoldsRightIn content before → IsRightStore content w.disk
right_at_opening None before w o holds = tt
right_at_opening (Some content) before w o holds = (opening_right content before w o holds).0

pub opening_sound : (content : Option Contents) (before : Option FolderHistory) (w : World) → IsOpening content before w → BeganRight content before w → Sound w (λ who. no_knowledge)
opening_sound content before w o holds =
    let free : (key : List ℕ) → edit_of key (edits w.disk.cache) ≡ None = λ key. ap (edit_of key) o.free in
    record {
      seated = subst IsSeated (sym o.no_requests) tt;
      seats = subst (AllByRecursion (λ (r : ℕ × Request). r.0 < seat_count)) (sym o.no_requests) tt;
      orderly = subst IsOrderly (sym o.no_requests) tt;
      holding = subst (AllByRecursion (λ (r : ℕ × Request). IsHolding r.1)) (sym o.no_requests) tt;
      edits_agree = record {
        lengths = λ key. closed_kept key (edits w.disk.cache) w.disk.cache.table.written w.disk.cache.table.table.entries (free key) ∙ sym (none_open w o.no_requests key);
        numbers = λ key. ap is_some (free key) ∙ sym (ap is_some (none_open w o.no_requests key));
        keys = no_keys_open (edits w.disk.cache) w.disk.cache.table.written w.disk.cache.table.table.entries free ∙ sym (ap open_count o.no_requests);
        taken_are = ap taken o.free ∙ sym (ap open_count o.no_requests);
        places = ap length o.free;
      };
      once = o.once;
      files = λ k is who request found. let bad : None ≡ Some request = ap (request_of who) (sym o.no_requests) ∙ found in cc;
      right = λ on. subst (λ c. IsRightStore c w.disk) (sym o.content_is) (right_at_opening content before w o (holds on));
      off = λ is. o.no_requests;
      known_is = λ who. ap (request_of who) (sym o.no_requests);
    }

-- ---- what seats know after one entry more

own-append : {N : Type 0} (k : ℕ) (xs ys : List (Entry N)) → own k (xs ++ ys) ≡ own k xs ++ own k ys
own-append k [] ys = refl
own-append k (e ∷ xs) ys = elim (eqb e.by k) as (λ b. cond b (e ∷ own k (xs ++ ys)) (own k (xs ++ ys)) ≡ cond b (e ∷ own k xs) (own k xs) ++ own k ys) [
  | true ↦ ap (λ l. e ∷ l) (own-append k xs ys)
  | false ↦ own-append k xs ys
]

updated_by-append : (known : Knowledge) (xs ys : List (Entry Note)) → updated_by known (xs ++ ys) ≡ updated_by (updated_by known xs) ys
updated_by-append known [] ys = refl
updated_by-append known (e ∷ xs) ys = updated_by-append (updated e.note.event e.note.reply known) xs ys

knows_more : (past : List (Entry Note)) (e : Entry Note) (k : ℕ) → knowledge_with (knowledge_in past) e.by e.note.event e.note.reply k ≡ knowledge_in (past ++ e ∷ []) k
unfolding knowledge_with
knows_more past e k =
    let joined : knowledge_in (past ++ e ∷ []) k ≡ updated_by (knowledge_in past k) (own k (e ∷ [])) = ap learned (own-append k past (e ∷ [])) ∙ updated_by-append no_knowledge (own k past) (own k (e ∷ [])) in
    elim (eqb e.by k) as (λ t. cond t (updated e.note.event e.note.reply (knowledge_in past k)) (knowledge_in past k) ≡ updated_by (knowledge_in past k) (cond t (e ∷ []) [])) [ true ↦ refl | false ↦ refl ] ∙ sym joined

pub own_entries_tell : OwnEntriesTell
own_entries_tell past who note =
    ap learned (own-append who past (entry who note ∷ []) ∙ ap (λ b. own who past ++ cond b (entry who note ∷ []) []) (eq-eqb who who refl))
    ∙ updated_by-append no_knowledge (own who past) (entry who note ∷ [])

pub others_learn_nothing : OthersLearnNothing
others_learn_nothing past who other note apart =
    let not : eqb who other ≡ false = false_from_ne_true (eqb who other) (λ is. apart (sym (eqb-true who other is))) in
    ap learned (own-append other past (entry who note ∷ []) ∙ ap (λ b. own other past ++ cond b (entry who note ∷ []) []) not ∙ append-nil (own other past))

same_known : (w : World) (known known' : ℕ → Knowledge) → ((k : ℕ) → known' k ≡ known k) → Sound w known → Sound w known'
same_known w known known' same s = record {
  seated = s.seated;
  seats = s.seats;
  orderly = s.orderly;
  holding = s.holding;
  edits_agree = s.edits_agree;
  once = s.once;
  files = s.files;
  right = s.right;
  off = s.off;
  known_is = λ k. same k ∙ s.known_is k;
}

-- ---- what each step keeps, a history keeps

-- what holds between two worlds through any steps, of which some may be asked more
pub record Carried (Holds : World → World → Type 0) (Asked : World → Knowledge → Entry Note → Type 0) : Type 0 where
  pub here : (w : World) (known : ℕ → Knowledge) → Sound w known → Holds w w
  pub then_ : (a b c : World) → Holds a b → Holds b c → Holds a c
  pub step : (w z : World) (known : ℕ → Knowledge) (e : Entry Note) → e.by < seat_count → Sound w known → Permits w.content (known e.by) e.note.event → Asked w (known e.by) e → Step w e z → Holds w z

module _ {M : Type 0} (opening now : M → World) (history : M → List (Entry Note)) where
  abbrev machine : Ghosts M StoreEvent StoreReply Note
  machine = store_machine opening now history

  module _ (Holds : World → World → Type 0) (Asked : World → Knowledge → Entry Note → Type 0) (carried : Carried Holds Asked) where
    pub through : (content : Option Contents) (past rest : List (Entry Note)) (w z : World) → w.content ≡ content → Sound w (knowledge_in past) → Leads machine w rest z
        → ((xs ys : List (Entry Note)) (e : Entry Note) → rest ≡ xs ++ e ∷ ys → (e.by < seat_count) × Permits content (knowledge_in (past ++ xs) e.by) e.note.event)
        → ((xs ys : List (Entry Note)) (e : Entry Note) (between : World) → rest ≡ xs ++ e ∷ ys → Leads machine w xs between → Asked between (knowledge_in (past ++ xs) e.by) e)
        → Sound z (knowledge_in (past ++ rest)) × Holds w z
    through content past [] w z is s leads permits asked = (
      subst (λ v. Sound v (knowledge_in (past ++ []))) leads (same_known w (knowledge_in past) (knowledge_in (past ++ [])) (λ k. ap (λ l. knowledge_in l k) (append-nil past)) s),
      subst (Holds w) leads (carried.here w (knowledge_in past) s),
    )
    through content past (e ∷ rest) w z is s leads permits asked =
        let first = permits [] rest e refl in
        let mine : Permits w.content (knowledge_in past e.by) e.note.event = subst (λ c. Permits c (knowledge_in past e.by) e.note.event) (sym is) (subst (λ l. Permits content (knowledge_in l e.by) e.note.event) (append-nil past) first.1) in
        let next = event_law e.note.event w leads.0 (knowledge_in past) e.by e.note.reply first.0 s mine leads.1 in
        let holds = carried.step w leads.0 (knowledge_in past) e first.0 s mine (subst (λ l. Asked w (knowledge_in l e.by) e) (append-nil past) (asked [] rest e w refl refl)) leads.1 in
        let settings = settings_law e.note.event w leads.0 e.by e.note.reply leads.1 in
        let sound : Sound leads.0 (knowledge_in (past ++ e ∷ [])) = same_known leads.0 (knowledge_with (knowledge_in past) e.by e.note.event e.note.reply) (knowledge_in (past ++ e ∷ [])) (λ k. sym (knows_more past e k)) next in
        let later : (xs ys : List (Entry Note)) (d : Entry Note) → rest ≡ xs ++ d ∷ ys → (d.by < seat_count) × Permits content (knowledge_in ((past ++ e ∷ []) ++ xs) d.by) d.note.event = λ xs ys d at.
        let old = permits (e ∷ xs) ys d (ap (λ l. e ∷ l) at) in
        (old.0, subst (λ l. Permits content (knowledge_in l d.by) d.note.event) (sym (append_assoc past (e ∷ []) xs)) old.1) in
        let all = through content (past ++ e ∷ []) rest leads.0 z (settings.content ∙ is) sound leads.2 later (λ xs ys d between at l. subst (λ q. Asked between (knowledge_in q d.by) d) (sym (append_assoc past (e ∷ []) xs)) (asked (e ∷ xs) ys d between (ap (λ l. e ∷ l) at) (leads.0, leads.1, l))) in
        (subst (λ l. Sound z (knowledge_in l)) (append_assoc past (e ∷ []) rest) all.0, carried.then_ w leads.0 z holds all.1)

  -- the content
  content_carried : Carried (λ a b. b.content ≡ a.content) (λ w k e. ⊤)
  content_carried = record {
    here = λ w known s. refl;
    then_ = λ a b c x y. y ∙ x;
    step = λ w z known e small s permits asked step. (settings_law e.note.event w z e.by e.note.reply step).content;
  }

  -- after a legal history the world is sound, and has the content that it opened with
  pub sound_after : (content : Option Contents) (before : Option FolderHistory) (w z : World) (past : List (Entry Note)) → IsOpening content before w → BeganRight content before w → IsLegal machine w past z
      → Sound z (knowledge_in past) × (z.content ≡ content)
  sound_after content before w z past o holds legal =
      let both = through (λ a b. b.content ≡ a.content) (λ w k e. ⊤) content_carried content [] past w z o.content_is (opening_sound content before w o holds) legal.leads
      (λ xs ys e at. let may = legal.asked xs ys e at in (may.seat, subst (λ c. Permits c (knowledge_in xs e.by) e.note.event) o.content_is may.asked)) (λ xs ys e between at l. tt) in
      (both.0, both.1 ∙ o.content_is)

  pub always_sound : AlwaysSound opening now history
  always_sound content before w z past o holds legal = (sound_after content before w z past o holds legal).0

  -- the settings
  settings_carried : Carried SameSettings (λ w k e. ⊤)
  settings_carried = record {
    here = λ w known s. record { off = refl; content = refl; maximum = refl };
    then_ = λ a b c x y. record { off = y.off ∙ x.off; content = y.content ∙ x.content; maximum = y.maximum ∙ x.maximum };
    step = λ w z known e small s permits asked step. settings_law e.note.event w z e.by e.note.reply step;
  }

  pub stays_sound : StaysSound opening now history
  stays_sound w z past sound legal =
      through SameSettings (λ w k e. ⊤) settings_carried w.content [] past w z refl sound legal.leads
      (λ xs ys e at. let may = legal.asked xs ys e at in (may.seat, may.asked)) (λ xs ys e between at l. tt)

  -- what is off stays as it is
  abbrev StaysOff : World → World → Type 0
  StaysOff a b = a.off ≡ true → b ≡ a

  off_carried : Carried StaysOff (λ w k e. ⊤)
  off_carried = record {
    here = λ w known s off. refl;
    then_ = λ a b c x y off. let first = x off in y (ap (λ (v : World). v.off) first ∙ off) ∙ first;
    step = λ w z known e small s permits asked step off. off_law e.note.event w z known e.by e.note.reply s off step;
  }

  pub always_off : AlwaysOff opening now history
  always_off content before w z past o off legal =
      let began : BeganRight content before w = λ on. let bad : true ≡ false = sym off ∙ on in cc in
      (through StaysOff (λ w k e. ⊤) off_carried content [] past w z o.content_is (opening_sound content before w o began) legal.leads
      (λ xs ys e at. let may = legal.asked xs ys e at in (may.seat, subst (λ c. Permits c (knowledge_in xs e.by) e.note.event) o.content_is may.asked)) (λ xs ys e between at l. tt)).1 off

  -- where the content is told and the files hold what is right, each moment offers only what is right
  abbrev StaysRight : World → World → Type 0
  StaysRight a b = (content : Contents) → a.content ≡ Some content → HoldsRight content a.disk.cache.history → (b.content ≡ Some content) × PassesRight content a.disk b.disk

  passes_then : (content : Contents) (a b c : World) → PassesRight content a.disk b.disk → PassesRight content b.disk c.disk → PassesRight content a.disk c.disk
  passes_then content a b c x y h known =
      let first = x h known in
      runs_then (OffersRight content) h b.disk.cache.history c.disk.cache.history first (y (passed_through first.contents h) first.after_is)

  holds_then : (content : Contents) (a b : World) → HoldsRight content a.disk.cache.history → PassesRight content a.disk b.disk → HoldsRight content b.disk.cache.history
  holds_then content a b holds passes =
      let runs = passes holds.history holds.known in
      record { history = passed_through runs.contents holds.history; known = runs.after_is; right = runs.here }

  pub right_carried : Carried StaysRight (λ w k e. ⊤)
  right_carried = record {
    here = λ w known s content is holds. (is, right_still content w.disk holds);
    then_ = λ a b c x y content is holds.
        let first = x content is holds in
        let second = y content first.0 (holds_then content a b holds first.1) in
        (second.0, passes_then content a b c first.1 second.1);
    step = λ w z known e small s permits asked step content is holds. (
      (settings_law e.note.event w z e.by e.note.reply step).content ∙ is,
      right_law e.note.event content w z known e.by e.note.reply is holds s permits step,
    );
  }

  pub always_right : AlwaysRight opening now history
  always_right content before w z past o holds legal h known =
      let opened = opening_right content before w o holds in
      let start = opened.1 in
      let first = subst (λ (j : FolderHistory). Runs (OffersRight content) j w.disk.cache.history) (some_folder holds.history h (sym holds.known ∙ known)) start in
      let all = (through StaysRight (λ w k e. ⊤) right_carried (Some content) [] past w z o.content_is (opening_sound (Some content) before w o (λ on. holds)) legal.leads
      (λ xs ys e at. let may = legal.asked xs ys e at in (may.seat, subst (λ c. Permits c (knowledge_in xs e.by) e.note.event) o.content_is may.asked)) (λ xs ys e between at l. tt)).1 content o.content_is opened.0.holds in
      runs_then (OffersRight content) h w.disk.cache.history z.disk.cache.history first (all.1 (passed_through first.contents h) first.after_is)

  -- ---- what was offered and what is committed

  -- what passes a test is all that is offered, where it was and all that is handed over does
  abbrev Within : (Pair → Bool) → World → World → Type 0
  Within allowed a b = IfKnown a.disk.cache.history (λ h. IsWithin allowed h.held (entries a.disk.cache) → StaysWithin allowed h b.disk.cache)

  abbrev HandsOver : (Pair → Bool) → World → Knowledge → Entry Note → Type 0
  HandsOver allowed w known e = Pass allowed (handed_by_event e.note.event known)

  within_then : (allowed : Pair → Bool) (a b c : World) → Within allowed a b → Within allowed b c → Within allowed a c
  within_then allowed a b c x y h known within =
      let first = x h known within in
      let mid = passed_through first.moments.contents h in
      let second = y mid first.moments.after_is (first.within mid first.moments.after_is) in
      record { moments = runs_then (λ f. Pass allowed (offered f)) h b.disk.cache.history c.disk.cache.history first.moments second.moments; within = second.within }

  within_carried : (allowed : Pair → Bool) → Carried (Within allowed) (HandsOver allowed)
  within_carried allowed = record {
    here = λ w known s h is within. allows_same w.disk w.disk refl refl h is allowed within tt;
    then_ = within_then allowed;
    step = λ w z known e small s permits asked step h is within. event_allows e.note.event w z known e.by e.note.reply s permits step h is allowed within asked;
  }

  -- what an entry hands over is among what the history commits
  committed_has : (P : Pair → Type 0) (start xs ys : List (Entry Note)) (e : Entry Note) → AllByRecursion P (committed_after start (xs ++ e ∷ ys)) → AllByRecursion P (handed_by_event e.note.event (knowledge_in (start ++ xs) e.by))
  committed_has P start [] ys e all = subst (λ l. AllByRecursion P (handed_by_event e.note.event (knowledge_in l e.by))) (sym (append-nil start)) (all_front P (handed_by_event e.note.event (knowledge_in start e.by)) (committed_after (start ++ e ∷ []) ys) all)
  committed_has P start (x ∷ xs) ys e all =
      subst (λ l. AllByRecursion P (handed_by_event e.note.event (knowledge_in l e.by))) (append_assoc start (x ∷ []) xs)
      (committed_has P (start ++ x ∷ []) xs ys e (all_back P (handed_by_event x.note.event (knowledge_in start x.by)) (committed_after (start ++ x ∷ []) (xs ++ e ∷ ys)) all))

  among_more : (xs ys : List Pair) (p : Pair) → is_among xs p ≡ true → is_among (xs ++ ys) p ≡ true
  among_more [] ys p e = cc
  among_more (x ∷ xs) ys p e = elim (is_pair p x) as (λ b. b || is_among xs p ≡ true → b || is_among (xs ++ ys) p ≡ true) [ true ↦ λ h. refl | false ↦ λ h. among_more xs ys p h ] e

  pub always_given : AlwaysGiven opening now history
  always_given content before w z past o holds legal h known =
      let all = offered h.held ++ committed_in past in
      let more : (xs : List Pair) → Pass (is_among (offered h.held)) xs → Pass (is_among all) xs = λ xs a. weaken _ _ (λ p e. among_more (offered h.held) (committed_in past) p e) xs a in
      let first = runs_weaken (λ c. Pass (is_among (offered h.held)) (offered c)) (λ c. Pass (is_among all) (offered c)) (λ c a. more (offered c) a) h w.disk.cache.history (o.moments h known) in
      let after = passed_through first.contents h in
      let within : IsWithin (is_among all) after.held (entries w.disk.cache) = record { offers_allowed = first.here; keeps_allowed = more (values_of (listed after.held (entries w.disk.cache))) (o.keeps h known after first.after_is) } in
      let each = all_back (λ p. is_among all p ≡ true) (offered h.held) (committed_in past) (all_among all) in
      let stays = (through (Within (is_among all)) (HandsOver (is_among all)) (within_carried (is_among all)) content [] past w z o.content_is (opening_sound content before w o holds) legal.leads
      (λ xs ys e at. let may = legal.asked xs ys e at in (may.seat, subst (λ c. Permits c (knowledge_in xs e.by) e.note.event) o.content_is may.asked))
      (λ xs ys e between at l. committed_has (λ p. is_among all p ≡ true) [] xs ys e (subst (λ q. Pass (is_among all) (committed_after [] q)) at each))).1 after first.after_is within in
      runs_then (λ c. Pass (is_among all) (offered c)) h w.disk.cache.history z.disk.cache.history first stays.moments

  -- ---- runs

  -- a folder after some of the changes is one of those that it passed through, or as it was
  last_taken : (P : Folder → Type 0) (folder : Folder) (contents : List Folder) (count : ℕ) → P folder → AllByRecursion P contents → P (last_of folder (take count contents))
  last_taken P folder [] zero p all = p
  last_taken P folder [] (suc n) p all = p
  last_taken P folder (c ∷ contents) zero p all = p
  last_taken P folder (c ∷ contents) (suc n) p all = last_taken P c contents n all.0 all.1

  same_contents : (h : FolderHistory) (xs ys : List Folder) → Some (passed_through xs h) ≡ Some (passed_through ys h) → xs ≡ ys
  same_contents h xs ys e =
      let same : passed_through xs h ≡ passed_through ys h = some_folder (passed_through xs h) (passed_through ys h) e in
      append_cancel_left h.images xs ys (ap (λ (j : FolderHistory). j.images) same)

  run_right : (content : Contents) (folder left : Folder) → OffersRight content folder → IsRun opening now history content folder left → OffersRight content left
  run_right content folder left right run =
      let here = subst (OffersRight content) (sym run.found) right in
      let all = always_right content (Some run.before) run.opened run.ended run.past run.opens (record { history = run.before; known = refl; right = here }) run.legal run.before refl in
      let each = subst (AllByRecursion (OffersRight content)) (same_contents run.before all.contents run.contents (sym all.after_is ∙ run.history_is)) all.each in
      subst (OffersRight content) (sym run.left_is) (last_taken (OffersRight content) folder run.contents run.count right each)

  pub runs_stay_right : RunsStayRight opening now history
  runs_stay_right content zero folder left right runs = subst (OffersRight content) (sym runs) right
  runs_stay_right content (suc n) folder left right runs = runs_stay_right content n runs.0 left (run_right content folder runs.0 right runs.1) runs.2
