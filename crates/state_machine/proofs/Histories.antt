-- Histories: own entries, where steps lead, and what may follow.
use Rattle.std.proofs.Common.{◌≡◌, ℕ, Bool, true, false, ◌==◌, List, [], ◌∷◌, ◌++◌, ◌⊎◌, inl, inr, refl, ap, sym, subst, ◌∙◌}
use Rattle.std.specs.Prelude.{if◌then◌else◌, ⊤}
use Rattle.std.proofs.lemmas.List.{append_assoc}
use Rattle.state_machine.specs.declared.entry.Entry.{Entry}
use Rattle.state_machine.specs.declared.machine.Machine.{Ghosts}
use Rattle.state_machine.specs.Histories.{own}
use Rattle.state_machine.specs.Legal.{Leads, IsLegal, MayFollow}
use Rattle.state_machine.specs.Laws.{OwnEntriesAppend, StepsPart, StepsJoin, HistoriesGrow, HistoriesBegin, HistoriesEnd}

pub own-append : {N : Type 0} → OwnEntriesAppend N
own-append who [] second = refl
own-append who (e ∷ es) second = by_entry (e.by == who) (own-append who es second)
  where
    by_entry : (mine : Bool) → own who (es ++ second) ≡ own who es ++ own who second
        → (if mine then e ∷ own who (es ++ second) else own who (es ++ second)) ≡ (if mine then e ∷ own who es else own who es) ++ own who second
    by_entry true rest = ap (λ l. e ∷ l) rest
    by_entry false rest = rest

abbrev HasFirst : {A : Type 0} → List A → Type 0
HasFirst [] = ⊥
HasFirst (x ∷ xs) = ⊤

abbrev first_or : {A : Type 0} → A → List A → A
first_or d [] = d
first_or d (x ∷ xs) = x

abbrev rest_of : {A : Type 0} → List A → List A
rest_of [] = []
rest_of (x ∷ xs) = xs

has_entry : {A : Type 0} (xs ys : List A) (d : A) → xs ++ d ∷ ys ≡ [] → ⊥
has_entry [] ys d is = subst HasFirst is tt
has_entry (x ∷ xs) ys d is = subst HasFirst is tt

-- Where a list ends with an entry, any place in it is that entry's, or lies before it.
pub last_or_before : {A : Type 0} (zs xs ys : List A) (e d : A) → zs ++ e ∷ [] ≡ xs ++ d ∷ ys → ((xs ≡ zs) × (d ≡ e)) ⊎ ((rest : List A) × (zs ≡ xs ++ d ∷ rest))
last_or_before [] [] ys e d is = inl (refl, sym (ap (first_or e) is))
last_or_before [] (x ∷ xs) ys e d is = absurd (has_entry xs ys d (sym (ap rest_of is)))
last_or_before (z ∷ zs) [] ys e d is = inr (zs, ap (λ a. a ∷ zs) (ap (first_or z) is))
last_or_before (z ∷ zs) (x ∷ xs) ys e d is = elim (last_or_before zs xs ys e d (ap rest_of is)) [
  | inl h ↦ inl (ap (λ a. a ∷ xs) (sym (ap (first_or z) is)) ∙ ap (λ l. z ∷ l) h.0, h.1)
  | inr h ↦ inr (h.0, ap (λ a. a ∷ zs) (ap (first_or z) is) ∙ ap (λ l. x ∷ l) h.1)
]

empty_or_last : {A : Type 0} (xs : List A) → (xs ≡ []) ⊎ ((before : List A) × (last : A) × (xs ≡ before ++ last ∷ []))
empty_or_last [] = inl refl
empty_or_last (x ∷ xs) = inr (elim (empty_or_last xs) [
  | inl none ↦ ([], x, ap (λ l. x ∷ l) none)
  | inr some ↦ (x ∷ some.0, some.1, ap (λ l. x ∷ l) some.2)
])

module _ {M Event Reply Note : Type 0} (machine : Ghosts M Event Reply Note) where
  pub parts : StepsPart machine
  parts from to [] second leads = (from, refl, leads)
  parts from to (e ∷ es) second leads =
      let rest = parts leads.0 to es second leads.2 in
      (rest.0, (leads.0, leads.1, rest.1), rest.2)

  pub joins : StepsJoin machine
  joins from between to [] second one two = subst (λ w. Leads machine w second to) (sym one) two
  joins from between to (e ∷ es) second one two = (one.0, one.1, joins one.0 between to es second one.2 two)

  pub empty : (world : machine.World) → IsLegal machine world [] world
  empty world = record { leads = refl; asked = λ before after e is. absurd (has_entry before after e (sym is)) }

  pub grows : HistoriesGrow machine
  grows opening world next history e legal may step = record {
    leads = joins opening world next history (e ∷ []) legal.leads (next, step, refl);
    asked = λ before after d is. elim (last_or_before history before after e d is) [
      | inl h ↦ subst (λ x. MayFollow machine opening before x) (sym h.1) (subst (λ l. MayFollow machine opening l e) (sym h.0) may)
      | inr h ↦ legal.asked before h.0 d h.1
    ];
  }

  pub begins : HistoriesBegin machine
  begins opening now first second legal =
      let there = parts opening now first second legal.leads in (
        there.0,
        record { leads = there.1; asked = λ before after e is. legal.asked before (after ++ second) e (ap (λ l. l ++ second) is ∙ append_assoc before (e ∷ after) second) },
        there.2,
      )

  pub ends : HistoriesEnd machine
  ends opening now history legal = elim (empty_or_last history) [
    | inl none ↦ inl (none, sym (subst (λ l. Leads machine opening l now) none legal.leads))
    | inr some ↦ (
        let there = begins opening now some.0 (some.1 ∷ []) (subst (λ l. IsLegal machine opening l now) some.2 legal) in
        inr record {
          before = some.0;
          last = some.1;
          world = there.0;
          history_is = some.2;
          legal = there.1;
          may = legal.asked some.0 [] some.1 some.2;
          step = subst (λ w. machine.steps there.0 some.1 w) there.2.2 there.2.1;
        }
        )
  ]
