-- An entry of one key through steps of others.
use Rattle.std.proofs.Common.{◌≡◌, ℕ, Bool, true, false, cond, ◌||◌, List, [], ◌∷◌, ◌++◌, Some, None, refl, sym, ap, subst, ◌∙◌, inl, inr, option_and_then}
use Rattle.std.specs.declared.option.Option.{Option}
use Rattle.std.specs.Str.{bytes_eq}
use Rattle.std.proofs.lemmas.Slice.Eq.{bytes_eq-Decides}
use Rattle.outside.specs.Files.{FolderHistory}
use Rattle.disk_table.specs.UseOrder.{value_at}
use Rattle.cache_folder.specs.Offered.{edit_name, offered}
use Rattle.cache_folder.specs.Steps.{Entry, Cached, Drop, all_stepped, unmarked, answer_at, offer_of, offers}
use Rattle.cache_folder.specs.Images.{IfKnown, Runs}
use Rattle.cache_folder.specs.Sound.{text_at}
use Rattle.cache_folder.specs.Laws.{CacheLaws}
use Rattle.disk_lru.specs.State.{CacheState, list_of}
use Rattle.disk_lru.specs.Calls.{Steps, OffersOneOf, Passage, commit_steps, Makes}
use Rattle.disk_lru.specs.Past.{is_among}
use Rattle.disk_lru.specs.Staying.{HasEntry, EntryStays, EntriesStay}
use Rattle.disk_lru.proofs.Runs.{run_weaken, run_has}
use Rattle.disk_lru.proofs.Promises.{among_first, among_second, same_pair}

module _ (pair : List ℕ × List ℕ) where
  abbrev answer_in : Option (Entry (List ℕ)) → Option (List ℕ)
  answer_in o = option_and_then (λ x. unmarked x.marked x.values) o

  own : (marked : Bool) (o : Option (List ℕ)) → unmarked marked o ≡ Some pair.1 → is_among (offer_of pair.0 marked o) pair ≡ true
  own true o is = cc
  own false None is = cc
  own false (Some v) is = subst (λ o. is_among (offer_of pair.0 false o) pair ≡ true) (sym is) (ap (λ b. b || false) (same_pair pair))

  -- what the list answers is among what it offers
  among_offers : (es : Cached (List ℕ)) → answer_at pair.0 es ≡ Some pair.1 → is_among (offers es) pair ≡ true
  among_offers [] h = cc
  among_offers (e ∷ es) h =
      elim (bytes_eq pair.0 e.0) as (λ b. bytes_eq pair.0 e.0 ≡ b → answer_in (cond b (Some e.1) (value_at pair.0 es)) ≡ Some pair.1 → is_among (offer_of e.0 e.1.marked e.1.values ++ offers es) pair ≡ true) [
        | true ↦ λ same is. among_first pair (offer_of e.0 e.1.marked e.1.values) (offers es) (subst (λ k. is_among (offer_of k e.1.marked e.1.values) pair ≡ true) ((bytes_eq-Decides pair.0 e.0).0 same) (own e.1.marked e.1.values is))
        | false ↦ λ other is. among_second pair (offer_of e.0 e.1.marked e.1.values) (offers es) (among_offers es is)
      ] refl h

module _ (laws : CacheLaws) where
  -- after a call whose moments offer what was offered, or what one of two lists offers
  stays_by : (pair : List ℕ × List ℕ) (meant : Steps) (old new : CacheState) → Passage meant old new
      → ((h : FolderHistory) → answer_at pair.0 (list_of h.held old) ≡ Some pair.1 → answer_at pair.0 (all_stepped (list_of h.held old) (meant h.held)) ≡ Some pair.1)
      → IfKnown old.history (λ h. IfKnown new.history (λ k. answer_at pair.0 (list_of k.held new) ≡ answer_at pair.0 (list_of h.held old))) → EntryStays pair old new
  stays_by pair meant old new x later after h e has =
      let run : Runs (λ c. is_among (offered c) pair ≡ true) h new.history = run_weaken (OffersOneOf h.held (list_of h.held old) (all_stepped (list_of h.held old) (meant h.held))) _ h new.history
      (λ c w. elim w as (λ _. is_among (offered c) pair ≡ true) [
        | inl y ↦ ap (λ l. is_among l pair) y ∙ has.in_files
        | inr y ↦ elim y as (λ _. is_among (offered c) pair ≡ true) [
          | inl z ↦ ap (λ l. is_among l pair) z ∙ among_offers pair (list_of h.held old) has.in_list
          | inr z ↦ ap (λ l. is_among l pair) z ∙ among_offers pair (all_stepped (list_of h.held old) (meant h.held)) (later h has.in_list)
        ]
      ]) (x.moments h e) in (
        run,
        λ k e'. record {
          in_files = run_has (λ c. is_among (offered c) pair ≡ true) h k new.history run e';
          in_list = after h e k e' ∙ has.in_list;
        },
      )

  pub entries_stay : EntriesStay
  entries_stay = record {
    call = λ key meant made old new pair x on_meant on_made. stays_by pair meant old new x.passage
        (λ h is. laws.answer_left pair.0 (list_of h.held old) (meant h.held) (on_meant h.held) ∙ is)
        (λ h e k e'. ap (answer_at pair.0) (x.list h e k e') ∙ laws.answer_left pair.0 (list_of h.held old) (made h.held) (on_made h.held));
    eviction = λ key old new pair x ne. stays_by pair (λ f. Drop key ∷ []) old new x.passage
        (λ h is. laws.other_answer key pair.0 (list_of h.held old) ne ∙ is)
        (λ h e k e'. sym (laws.other_answer key pair.0 (list_of k.held new) ne) ∙ ap (answer_at pair.0) (x.others h e k e') ∙ laws.other_answer key pair.0 (list_of h.held old) ne);
  }

  -- what a commit has stored
  pub entry_stored : (key : List ℕ) (old new : CacheState) → Makes key (commit_steps key) old new → IfKnown old.history (λ h. IfKnown new.history (λ k. HasEntry (key, text_at h.held (edit_name key)) k.held new))
  entry_stored key old new x h e k e' =
      let pair : List ℕ × List ℕ = (key, text_at h.held (edit_name key)) in
      let is : answer_at key (list_of k.held new) ≡ Some pair.1 = ap (answer_at key) (x.call.list h e k e') ∙ laws.answer_committed key pair.1 (list_of h.held old) in
      record { in_files = ap (λ l. is_among l pair) (x.offers_now k e') ∙ among_offers pair (list_of k.held new) is; in_list = is }
