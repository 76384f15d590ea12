-- Where a walk and the engine stand beside one another: the begins that are live are the loads that seat 0 has.
use Rattle.std.proofs.Common.{List, None, Option, Some, [], ap, arith, cond, eqb, false, inl, inr, length, refl, subst, sym, true, true≢false, ℕ, ◌+◌, ◌-◌, ◌<◌, ◌∙◌, ◌∷◌, ◌≡◌, ◌≢◌, ◌≤◌}
use Rattle.std.proofs.lemmas.Bool.{eq-eqb, eqb-true}
use Rattle.std.specs.Cmp.{nat_cmp_total}
use Rattle.std.specs.FinMap.{FinMap, get, insert, len, len-empty, len-insert, len-remove, remove}
use Rattle.std.specs.Option.{is_some}
use Rattle.std.specs.Ordering.{nat_cmp}
use Rattle.std.specs.Prelude.{not, slice_index_or}
use Rattle.engine_world.specs.Knowledge.{Knowledge, OwnLoad, knowledge_in, own_load, updated}
use Rattle.engine_world.specs.Sound.{Sound, facts}
use Rattle.engine_world.specs.Steps.{Transition, load, quota_of}
use Rattle.engine_world.specs.World.{Limits, World, opening}
use Rattle.engine_world.specs.declared.events.Event.{Event}
use Rattle.engine_world.specs.declared.events.Note.{Note}
use Rattle.engine_world.specs.NumberLaws.{gone_found, gone_other, none_at, put_cases, put_other, put_same}
use Rattle.load_table.specs.Loads.{owned}
use Rattle.outside.specs.Content.{Contents}
use Rattle.script_walk.specs.Orderly.{In, without_begin}
use Rattle.script_walk.specs.Walk.{Begin}
use Rattle.state_machine.specs.declared.entry.Entry.{Entry}
use Rattle.fetch_bounds.proofs.Entries.{Adds, Knows, load_adds, work_knows}
use Rattle.fetch_bounds.proofs.Following.{IsStep, known_after}
use Rattle.fetch_bounds.proofs.Histories.{Grounds, Said}
use Rattle.fetch_bounds.proofs.Seats.{at_each_seat, next_is_new, own_law, seat_law}
use Rattle.fetch_bounds.proofs.Starting.{IsMore, full_not, load_more}
use Rattle.fetch_bounds.specs.Follows.{IsLoadBy, IsLoadOf, IsReleaseOf, IsTrimTo, IsWork}

-- A seat knows the load of a begin, with its key and kind.
abbrev pub IsKnown : Knowledge → Begin → Type 0
IsKnown known b = (n : ℕ) × IsLoadOf b n × (own : OwnLoad) × (get known.loads n ≡ Some own) × (own.key ≡ b.spec.key) × (own.cached ≡ b.spec.cached)

-- So many begins were made, and these are live. They have distinct numbers, and no other seat has a load.
pub record Stands (limits : Limits) (content : Option Contents) (begun : ℕ) (live : List Begin) (w : World) (known : ℕ → Knowledge) : Type 0 where
  pub sound : Sound w known
  pub limits_are : w.limits ≡ limits
  pub content_is : w.content ≡ content
  pub begun_is : (known 0).begun ≡ begun
  pub size_is : len (known 0).loads ≡ length live
  pub live_are : (b : Begin) → In b live → IsKnown (known 0) b
  pub known_are : (n : ℕ) (own : OwnLoad) → get (known 0).loads n ≡ Some own → (b : Begin) × In b live × IsLoadOf b n
  pub apart : (a b : Begin) → In a live → In b live → a.number ≡ b.number → a ≡ b
  pub others : (who : ℕ) → who ≢ 0 → len (known who).loads ≡ 0

pub same_number : (b : Begin) (n m : ℕ) → IsLoadOf b n → IsLoadOf b m → n ≡ m
same_number b n m e h = omega (arith, e, h)

-- a begin's load, by its number
pub load_known : (known : Knowledge) (b : Begin) (n : ℕ) → IsLoadOf b n → IsKnown known b → (own : OwnLoad) × (get known.loads n ≡ Some own) × (own.key ≡ b.spec.key) × (own.cached ≡ b.spec.cached)
load_known known b n load_of is = (is.2, ap (get known.loads) (same_number b n is.0 load_of is.1) ∙ is.3, is.4, is.5)

pub in_without : (number : ℕ) (b : Begin) (bs : List Begin) → In b (without_begin number bs) → In b bs × (b.number ≢ number)
in_without number b [] h = absurd h
in_without number b (x ∷ bs) h = elim (eqb x.number number) as (λ t. eqb x.number number ≡ t → In b (cond (not t) (x ∷ without_begin number bs) (without_begin number bs)) → In b (x ∷ bs) × (b.number ≢ number)) [
  | true ↦ λ e h. let rest = in_without number b bs h in (inr rest.0, rest.1)
  | false ↦ λ e h. elim h [
    | inl is ↦ (inl is, λ same. true≢false (sym (eq-eqb x.number number (ap (λ (y : Begin). y.number) (sym is) ∙ same)) ∙ e))
    | inr is ↦ let rest = in_without number b bs is in (inr rest.0, rest.1)
  ]
] refl h

pub stays_without : (number : ℕ) (b : Begin) (bs : List Begin) → In b bs → b.number ≢ number → In b (without_begin number bs)
stays_without number b [] h ne = absurd h
stays_without number b (x ∷ bs) h ne = elim (eqb x.number number) as (λ t. eqb x.number number ≡ t → In b (cond (not t) (x ∷ without_begin number bs) (without_begin number bs))) [
  | true ↦ λ e. elim h [
    | inl is ↦ absurd (ne (ap (λ (y : Begin). y.number) is ∙ eqb-true x.number number e))
    | inr is ↦ stays_without number b bs is ne
  ]
  | false ↦ λ e. elim h [ inl is ↦ inl is | inr is ↦ inr (stays_without number b bs is ne) ]
] refl

module _ (g : Grounds) (P : Said) (limits : Limits) (content : Option Contents) (begun : ℕ) (live : List Begin) (w m : World) (known : ℕ → Knowledge) (at : Stands limits content begun live w known) (e : Entry Note) (s : IsStep P w known e m) where
  abbrev next : ℕ → Knowledge
  next = known_after known e

  -- what stays in any case
  module _ (begun' : ℕ) (live' : List Begin) where
    stand : (next 0).begun ≡ begun' → len (next 0).loads ≡ length live' → ((b : Begin) → In b live' → IsKnown (next 0) b)
        → ((n : ℕ) (own : OwnLoad) → get (next 0).loads n ≡ Some own → (b : Begin) × In b live' × IsLoadOf b n)
        → ((a b : Begin) → In a live' → In b live' → a.number ≡ b.number → a ≡ b)
        → ((who : ℕ) → who ≢ 0 → len (next who).loads ≡ 0) → Stands limits content begun' live' m next
    stand begun_is size_is live_are known_are apart others =
        let fixed = g.keeps_opening e.note.event w m e.by e.note.reply s.step in
        record {
          sound = g.keeps_sound e.note.event w m known e.by e.note.reply s.served at.sound s.permits s.step;
          limits_are = ap (λ (v : World). v.limits) fixed ∙ at.limits_are;
          content_is = ap (λ (v : World). v.content) fixed ∙ at.content_is;
          begun_is = begun_is;
          size_is = size_is;
          live_are = live_are;
          known_are = known_are;
          apart = apart;
          others = others;
        }

  -- ---- work

  work_kept : (b : Begin) (old new : Knowledge) → Knows old new → IsKnown old b → IsKnown new b
  work_kept b old new k is = let now = k.kept is.0 is.2 is.3 in (is.0, is.1, now.0, now.1, now.2 ∙ is.4, now.3 ∙ is.5)

  pub work_stands : IsWork e.note.event → Stands limits content begun live m next
  work_stands is =
      let k : Knows (known 0) (updated e.note.event e.note.reply (known 0)) = work_knows e.note.event e.note.reply (known 0) is in
      stand begun live
      (seat_law (λ kn. kn.begun ≡ begun) known e.by e.note.event e.note.reply at.begun_is (k.begun ∙ at.begun_is))
      (seat_law (λ kn. len kn.loads ≡ length live) known e.by e.note.event e.note.reply at.size_is (k.size ∙ at.size_is))
      (λ b b_in. seat_law (λ kn. IsKnown kn b) known e.by e.note.event e.note.reply (at.live_are b b_in) (work_kept b (known 0) _ k (at.live_are b b_in)))
      (seat_law (λ kn. (n : ℕ) (own : OwnLoad) → get kn.loads n ≡ Some own → (b : Begin) × In b live × IsLoadOf b n) known e.by e.note.event e.note.reply at.known_are
      (λ n now now_at. let old = k.known n now now_at in at.known_are n old.0 old.1))
      at.apart
      (at_each_seat (λ q kn. q ≢ 0 → len kn.loads ≡ 0) known e.by e.note.event e.note.reply (λ q ne. at.others q)
      (λ ne. (work_knows e.note.event e.note.reply (known e.by) is).size ∙ at.others e.by ne))

  -- ---- entries of seat 0

  module _ (mine : e.by ≡ 0) where
    -- the other seats know what they knew
    others_stay : (who : ℕ) → who ≢ 0 → len (next who).loads ≡ 0
    others_stay = at_each_seat (λ q kn. q ≢ 0 → len kn.loads ≡ 0) known e.by e.note.event e.note.reply (λ q ne. at.others q) (λ ne. absurd (ne mine))

    -- what seat 0 knows after the event
    own : (P : Knowledge → Type 0) (event : Event) → e.note.event ≡ event → P (updated event e.note.reply (known 0)) → P (next 0)
    own P event is h = own_law P known e.by e.note.event e.note.reply mine (subst (λ v. P (updated v e.note.reply (known 0))) (sym is) h)

    pub trim_stands : (level : ℕ) → IsTrimTo level e → Stands limits content begun live m next
    trim_stands level is = stand begun live (own (λ kn. kn.begun ≡ begun) _ is at.begun_is) (own (λ kn. len kn.loads ≡ length live) _ is at.size_is)
        (λ b b_in. own (λ kn. IsKnown kn b) _ is (at.live_are b b_in))
        (own (λ kn. (n : ℕ) (load : OwnLoad) → get kn.loads n ≡ Some load → (b : Begin) × In b live × IsLoadOf b n) _ is at.known_are) at.apart others_stay

    -- a hold is dropped
    module _ (b : Begin) (is : IsReleaseOf b e) (b_in : In b live) (fewer : length (without_begin b.number live) + 1 ≡ length live) where
      abbrev left : FinMap nat_cmp OwnLoad
      left = remove (known 0).loads is.0

      one_less : len left ≡ length (without_begin b.number live)
      one_less =
          let l = load_known (known 0) b is.0 is.1 (at.live_are b b_in) in
          let less : len left ≡ len (known 0).loads - 1 = len-remove nat_cmp_total (known 0).loads is.0 ∙ ap (λ o. cond (is_some o) (len (known 0).loads - 1) (len (known 0).loads)) l.1 in
          omega (arith, less, at.size_is, fewer)

      pub drop_stands : Stands limits content begun (without_begin b.number live) m next
      drop_stands = stand begun (without_begin b.number live) (own (λ kn. kn.begun ≡ begun) _ is.2 at.begun_is) (own (λ kn. len kn.loads ≡ length (without_begin b.number live)) _ is.2 one_less)
          (λ o o_in.
          let old = in_without b.number o live o_in in
          let l : IsKnown (known 0) o = at.live_are o old.0 in
          own (λ kn. IsKnown kn o) _ is.2 (l.0, l.1, l.2, gone_other (known 0).loads is.0 l.0 (λ same. old.1 (l.1 ∙ ap (λ n. n + 1) same ∙ sym is.1)) ∙ l.3, l.4, l.5))
          (own (λ kn. (n : ℕ) (load : OwnLoad) → get kn.loads n ≡ Some load → (o : Begin) × In o (without_begin b.number live) × IsLoadOf o n) _ is.2 (λ n load load_at.
          let found = gone_found (known 0).loads is.0 n load load_at in
          let old = at.known_are n load found.1 in
          (old.0, stays_without b.number old.0 live old.1 (λ same. found.0 (omega (arith, same, old.2, is.1))), old.2)))
          (λ x y x_in y_in. at.apart x y (in_without b.number x live x_in).0 (in_without b.number y live y_in).0) others_stay

    -- a begin is made
    module _ (b : Begin) (is : IsLoadBy b e) (number : b.number ≡ begun + 1) (few : length live < 4096) (room : 4096 ≤ slice_index_or limits.quotas 0 0) where
      pub loaded : (e.note.reply ≡ (load w e.by b.spec).0) × (m ≡ (load w e.by b.spec).1)
      loaded = subst (λ event. Transition w e.by event e.note.reply m) is s.step

      pub below_quota : owned e.by w.loads ≢ quota_of w e.by
      below_quota same =
          let loads : owned e.by w.loads ≡ length live = ap (λ q. owned q w.loads) mine ∙ (at.sound.known_is 0).live ∙ at.size_is in
          let quota : quota_of w e.by ≡ slice_index_or limits.quotas 0 0 = ap (quota_of w) mine ∙ ap (λ (l : Limits). slice_index_or l.quotas 0 0) at.limits_are in
          absurd (omega (arith, same, loads, quota, few, room))

      pub more : IsMore w (load w e.by b.spec)
      more = load_more w e.by b.spec below_quota

      adds : Adds b.spec (known 0) (next 0)
      adds = own (Adds b.spec (known 0)) _ is (load_adds b.spec e.note.reply (known 0) (λ full. full_not more.not_full (sym loaded.0 ∙ full)))

      below : (o : Begin) → In o live → o.number ≤ begun
      below o o_in = let l : IsKnown (known 0) o = at.live_are o o_in in omega (arith, (at.sound.known_is 0).below l.0 l.2 l.3, l.1, at.begun_is)

      pub begin_stands : Stands limits content (begun + 1) (b ∷ live) m next
      begin_stands =
          let kn = known 0 in
          let new : OwnLoad = own_load b.spec adds.ready in
          let mine_is : IsLoadOf b kn.begun = number ∙ ap (λ n. n + 1) (sym at.begun_is) in
          stand (begun + 1) (b ∷ live) (adds.begun ∙ ap (λ n. n + 1) at.begun_is)
          (let unused : get kn.loads kn.begun ≡ None = (next_is_new (facts w) 0 kn (at.sound.known_is 0)).0 in
          let one : len (insert kn.loads kn.begun new) ≡ len kn.loads + 1 = len-insert nat_cmp_total kn.loads kn.begun _ ∙ ap (λ o. cond (is_some o) (len kn.loads) (len kn.loads + 1)) unused in
          omega (arith, one, ap (λ l. len l) adds.loads, at.size_is))
          (λ o o_in. elim o_in [
            | inl same ↦ subst (IsKnown (next 0)) (sym same) (kn.begun, mine_is, new, ap (λ l. get l kn.begun) adds.loads ∙ put_same kn.loads kn.begun new, refl, refl)
            | inr old ↦
                let l : IsKnown kn o = at.live_are o old in
                (l.0, l.1, l.2, ap (λ q. get q l.0) adds.loads ∙ put_other kn.loads kn.begun new l.0 (λ same. absurd (omega (arith, (at.sound.known_is 0).below l.0 l.2 l.3, same))) ∙ l.3, l.4, l.5)
          ])
          (λ n load load_at. elim (put_cases kn.loads kn.begun new n load (ap (λ q. get q n) (sym adds.loads) ∙ load_at)) [
            | inl h ↦ (b, inl refl, mine_is ∙ ap (λ q. q + 1) (sym h.0))
            | inr h ↦ let old = at.known_are n load h.1 in (old.0, inr old.1, old.2)
          ])
          (λ x y x_in y_in same. elim x_in [
            | inl x_is ↦ elim y_in [
              | inl y_is ↦ x_is ∙ sym y_is
              | inr y_old ↦ absurd (omega (arith, below y y_old, same, ap (λ (o : Begin). o.number) x_is, number))
            ]
            | inr x_old ↦ elim y_in [
              | inl y_is ↦ absurd (omega (arith, below x x_old, same, ap (λ (o : Begin). o.number) y_is, number))
              | inr y_old ↦ at.apart x y x_old y_old same
            ]
          ])
          others_stay

-- a walk and an engine begin so
pub opening_stands : (limits : Limits) (content : Option Contents) → Sound (opening limits content) (knowledge_in []) → Stands limits content 0 [] (opening limits content) (knowledge_in [])
opening_stands limits content sound = record {
  sound = sound;
  limits_are = refl;
  content_is = refl;
  begun_is = refl;
  size_is = len-empty nat_cmp _;
  live_are = λ b is. absurd is;
  known_are = λ n own at. none_at n own at;
  apart = λ a b a_in b_in same. absurd a_in;
  others = λ who ne. len-empty nat_cmp _;
}
