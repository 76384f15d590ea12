-- The releases of the loads that are held, one after the other.
use Rattle.std.proofs.Common.{◌≡◌, List, [], ◌∷◌, ◌++◌, reverse, Some, None, Option, refl, ap, sym, subst, ◌∙◌, append_assoc, append-nil}
use Rattle.std.specs.Option.{option_to_list}
use Rattle.std.proofs.lemmas.List.{reverse-append}
use Rattle.state_machine.specs.declared.entry.Entry.{Entry}
use Rattle.engine_world.specs.declared.events.Event.{Event}
use Rattle.engine_world.specs.declared.events.Event.TheVariants as events
use Rattle.engine_world.specs.declared.events.NotedReply.TheVariants as replies
use Rattle.engine_world.specs.declared.events.Note.{Note}
use Rattle.engine_world.specs.Laws.{KeepsOpening}
use Rattle.engine_shared.specs.Tokens.{HoldValue}
use Rattle.engine_shared.specs.Caller.{Caller, IsCall, entry_of}
use Rattle.engine_shared.specs.CallLaws.{LoadsStay, JobsStay}
use Rattle.fetch_bounds.specs.FailureLaws.{FailuresByEntry, SourceRunsAddUp}
use Rattle.engine_views.specs.Held.{Holds, loads_in}
use Rattle.engine_views.specs.Owner.{HasJust}
use Rattle.engine_views.specs.Closing.{AreReleases, Closes}
use Rattle.engine_views.specs.inside.Orders.{Released}
use Rattle.engine_views.specs.inside.Releasing.{AreReleasedTo}
use Rattle.engine_views.proofs.Owners.{one_step}
use Rattle.engine_views.proofs.Calls.{no_job}
use Rattle.engine_views.proofs.Holding.{just_released}

pub none_released : (all left : List HoldValue) (c : Caller) → all ≡ left → HasJust c all → AreReleasedTo all left c c
none_released all left c same just = record {
  done = [];
  parts = same;
  just = subst (HasJust c) same just;
  later = [];
  seen = sym (append-nil c.seen);
  releases = tt;
  opening = refl;
  no_job = record { runs = refl; fails = refl };
}

one_release : (done : List HoldValue) (load : HoldValue) (es : List (Entry Note)) (e : Entry Note) → AreReleases done es → e.by ≡ 0 → e.note.event ≡ events.Release load.number → AreReleases (done ++ load ∷ []) (es ++ e ∷ [])
one_release [] load [] e are by is = (by, is, tt)
one_release [] load (x ∷ es) e are by is = absurd are
one_release (l ∷ done) load [] e are by is = absurd are
one_release (l ∷ done) load (x ∷ es) e are by is = (are.0, are.1, one_release done load es e are.2 by is)

module _ (stay : LoadsStay) (jobs : JobsStay) (opens : (event : Event) → KeepsOpening event) (runs : SourceRunsAddUp) (fails : FailuresByEntry) (all : List HoldValue) where
  load_released : (left : List HoldValue) (load : HoldValue) (old between new : Caller) → AreReleasedTo all (load ∷ left) old between → IsCall between (events.Release load.number) replies.Done new → AreReleasedTo all left old new
  load_released left load old between new was call =
      let n = load.number in
      let e : Entry Note = entry_of between (events.Release n) replies.Done in
      let mine = one_step opens between new (events.Release n) replies.Done was.just.owner.who was.just.owner.seats call in
      let none = no_job runs fails between new (events.Release n) replies.Done mine refl (λ known. refl) in
      record {
        done = was.done ++ load ∷ [];
        parts = was.parts ∙ sym (append_assoc was.done (load ∷ []) left);
        just = just_released stay jobs opens between new load left was.just call;
        later = was.later ++ e ∷ [];
        seen = mine.seen ∙ ap (λ l. l ++ e ∷ []) was.seen ∙ append_assoc old.seen was.later (e ∷ []);
        releases = one_release was.done load was.later e was.releases was.just.owner.who refl;
        opening = mine.opening ∙ was.opening;
        no_job = record { runs = none.runs ∙ was.no_job.runs; fails = none.fails ∙ was.no_job.fails };
      }

  -- what one view held is released
  pub hold_released : (left : List HoldValue) (hold : Option HoldValue) (old between new : Caller) → AreReleasedTo all (option_to_list hold ++ left) old between → Released hold between new → AreReleasedTo all left old new
  hold_released left None old between new was released = subst (AreReleasedTo all left old) (sym released) was
  hold_released left (Some load) old between new was released = load_released left load old between new was released

-- all were
pub all_released : (all left : List HoldValue) (old new : Caller) → left ≡ [] → AreReleasedTo all left old new → Closes all old new
all_released all left old new none was = record {
  just = subst (HasJust new) none was.just;
  later = was.later;
  seen = was.seen;
  releases = subst (λ l. AreReleases l was.later) (sym (was.parts ∙ ap (λ l. was.done ++ l) none ∙ append-nil was.done)) was.releases;
  opening = was.opening;
  no_job = was.no_job;
}

-- ---- from the last hold to the first

pub twice_reversed : (holds : Holds) → reverse (reverse holds) ≡ holds
twice_reversed [] = refl
twice_reversed (h ∷ holds) = ap reverse (reverse-append (h ∷ []) holds) ∙ reverse-append (reverse holds) (h ∷ []) ∙ ap (λ l. h ∷ l) (twice_reversed holds)

pub last_first : (holds others : Holds) (hold : Option HoldValue) → holds ≡ others ++ hold ∷ [] → loads_in (reverse holds) ≡ option_to_list hold ++ loads_in (reverse others)
last_first holds others hold is = ap (λ l. loads_in (reverse l)) is ∙ ap loads_in (reverse-append others (hold ∷ []))
