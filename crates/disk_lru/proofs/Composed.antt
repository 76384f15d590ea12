-- A call, with the rebuilds before it and behind it.
use Rattle.std.proofs.Common.{◌≡◌, ◌≢◌, ◌⊎◌, ℕ, Bool, List, [], ◌∷◌, Some, refl, sym, ap, subst, ◌∙◌, inl, inr}
use Rattle.std.specs.FinMap.{get}
use Rattle.outside.specs.Files.{Folder, FolderHistory, passed_through}
use Rattle.disk_table.specs.UseOrder.{without}
use Rattle.disk_table.specs.Table.{edit_of}
use Rattle.cache_folder.specs.Offered.{edit_name, offered}
use Rattle.cache_folder.specs.Steps.{Drop, all_stepped, offers}
use Rattle.cache_folder.specs.Images.{IfKnown, WasKnown, Runs, OffersEither}
use Rattle.cache_folder.specs.Tables.{closed_at}
use Rattle.cache_folder.specs.Sound.{listed, SameLength, SameEntries, MayLose, Way, Done, RebuildWay}
use Rattle.cache_folder.specs.Allowed.{Pass, IsWithin, values_of, handed_by}
use Rattle.cache_folder.specs.Laws.{CacheLaws}
use Rattle.disk_lru.specs.State.{CacheState, entries, edits, list_of, Offers, IsSettled}
use Rattle.disk_lru.specs.Calls.{Steps, drop_steps, StaysWithin, OffersOneOf, Passage, CallOn, StillAnswers, Makes, Fails, Stays}
use Rattle.disk_lru.specs.inside.Rebuilds.{Rebuilds, Took}
use Rattle.disk_lru.proofs.Runs.{run_none, run_more, run_weaken, run_has, known_more, same_some}

module _ (laws : CacheLaws) where
  -- ---- a rebuild

  module _ (old new : CacheState) (r : Rebuilds old new) where
    pub same_entries : (h k : FolderHistory) → old.history ≡ Some h → new.history ≡ Some k → SameEntries h.held k.held
    same_entries h k e e' = (run_has _ h k new.history (r.moments h e) e').1

    pub rebuilt_list : (h k : FolderHistory) → old.history ≡ Some h → new.history ≡ Some k → list_of k.held new ≡ list_of h.held old
    rebuilt_list h k e e' = ap (listed k.held) r.entries_are ∙ laws.entries_listed h.held k.held (entries old) (same_entries h k e e')

    pub list_moments : (h : FolderHistory) → old.history ≡ Some h → Offers h.held old → Runs (λ c. offered c ≡ offers (list_of h.held old)) h new.history
    list_moments h e o = run_weaken (RebuildWay h.held (entries old)) (λ c. offered c ≡ offers (list_of h.held old)) h new.history
        (λ c w. elim w.0 as (λ _. offered c ≡ offers (list_of h.held old)) [ inl x ↦ x ∙ o | inr x ↦ x ]) (r.moments h e)

    pub rebuilt_offers : (h k : FolderHistory) → old.history ≡ Some h → new.history ≡ Some k → Offers h.held old → Offers k.held new
    rebuilt_offers h k e e' o = run_has _ h k new.history (list_moments h e o) e' ∙ ap offers (sym (rebuilt_list h k e e'))

    pub rebuilt_within : (h : FolderHistory) → old.history ≡ Some h → (allowed : List ℕ × List ℕ → Bool) → IsWithin allowed h.held (entries old) → StaysWithin allowed h new
    rebuilt_within h e allowed w =
        let moments : Runs (λ c. Pass allowed (offered c)) h new.history = run_weaken (RebuildWay h.held (entries old)) (λ c. Pass allowed (offered c)) h new.history
        (λ c x. elim x.0 as (λ _. Pass allowed (offered c)) [
          | inl y ↦ subst (Pass allowed) (sym y) w.offers_allowed
          | inr y ↦ subst (Pass allowed) (sym y) (laws.offers_allowed allowed (list_of h.held old) w.keeps_allowed)
        ]) (r.moments h e) in
        record {
          moments = moments;
          within = λ k e'. record {
            offers_allowed = run_has _ h k new.history moments e';
            keeps_allowed = subst (Pass allowed) (ap values_of (sym (rebuilt_list h k e e'))) w.keeps_allowed;
          };
        }

  -- ---- a call on the files, without rebuilds

  -- each moment offers the list before the steps that were meant or after them, and other keys' files are as they were
  abbrev pub MeantWays : List ℕ → Steps → CacheState → CacheState → Type 0
  MeantWays key meant old new = IfKnown old.history (λ h. Runs (Way key h.held (list_of h.held old) (all_stepped (list_of h.held old) (meant h.held))) h new.history)

  module _ (key : List ℕ) (meant made : Steps) (old new : CacheState)
      (known : WasKnown old.history new.history) (ways : MeantWays key meant old new)
      (list : IfKnown old.history (λ h. IfKnown new.history (λ k. list_of k.held new ≡ all_stepped (list_of h.held old) (made h.held))))
      (hands : (f : Folder) (allowed : List ℕ × List ℕ → Bool) → Pass allowed (handed_by (meant f)) → Pass allowed (handed_by (made f))) where
    pub call_by : CallOn key meant made old new
    call_by = record {
      passage = record {
        known = known;
        moments = λ h e. run_weaken _ _ h new.history (λ c w. inr w.0) (ways h e);
        allows = λ h e allowed w pass.
            let moments : Runs (λ c. Pass allowed (offered c)) h new.history = run_weaken _ (λ c. Pass allowed (offered c)) h new.history
            (λ c x. elim x.0 as (λ _. Pass allowed (offered c)) [
              | inl y ↦ subst (Pass allowed) (sym y) (laws.offers_allowed allowed (list_of h.held old) w.keeps_allowed)
              | inr y ↦ subst (Pass allowed) (sym y) (laws.offers_allowed allowed (all_stepped (list_of h.held old) (meant h.held)) (laws.steps_allowed allowed (list_of h.held old) (meant h.held) w.keeps_allowed pass))
            ]) (ways h e) in
            record {
              moments = moments;
              within = λ k e'. record {
                offers_allowed = run_has _ h k new.history moments e';
                keeps_allowed = subst (Pass allowed) (ap values_of (sym (list h e k e'))) (laws.steps_allowed allowed (list_of h.held old) (made h.held) w.keeps_allowed (hands h.held allowed pass));
              };
            };
      };
      list = list;
      others = λ h e k e' other ne. laws.others_edits key other h.held k.held (run_has _ h k new.history (ways h e) e').1 ne;
    }

  pub call_done : (key : List ℕ) (meant : Steps) (old new : CacheState) → WasKnown old.history new.history → MeantWays key meant old new
      → IfKnown old.history (λ h. Done new.history (entries new) (all_stepped (list_of h.held old) (meant h.held))) → CallOn key meant meant old new
  call_done key meant old new known ways does = call_by key meant meant old new known ways
      (λ h e k e'. let d = does h e in subst (λ (m : FolderHistory). listed m.held (entries new) ≡ all_stepped (list_of h.held old) (meant h.held)) (same_some _ _ (sym d.holds ∙ e')) d.list)
      (λ f allowed pass. pass)

  pub call_failed : (key : List ℕ) (meant : Steps) (old new : CacheState) → WasKnown old.history new.history → MeantWays key meant old new
      → entries new ≡ without key (entries old) → CallOn key meant (λ f. Drop key ∷ []) old new
  call_failed key meant old new known ways forgets = call_by key meant (λ f. Drop key ∷ []) old new known ways
      (λ h e k e'. ap (listed k.held) forgets ∙ laws.others_listed key h.held k.held (entries old) (run_has _ h k new.history (ways h e) e').1)
      (λ f allowed pass. tt)

  -- ---- a rebuild alone

  -- each moment of a rebuild offers what was offered, or the list
  abbrev pub BuildMoment : Folder → CacheState → Folder → Type 0
  BuildMoment f old c = (offered c ≡ offered f) ⊎ (offered c ≡ offers (list_of f old))

  module _ (old new : CacheState) (r : Rebuilds old new) where
    pub rebuild_moments : (h : FolderHistory) → old.history ≡ Some h → Runs (BuildMoment h.held old) h new.history
    rebuild_moments h e = run_weaken (RebuildWay h.held (entries old)) (BuildMoment h.held old) h new.history (λ c w. w.0) (r.moments h e)

  -- ---- a rebuild that failed, and the key forgotten

  pub call_unready : (key : List ℕ) (meant : Steps) (old mid new : CacheState) → Rebuilds old mid → new.history ≡ mid.history → entries new ≡ without key (entries mid)
      → CallOn key meant (λ f. Drop key ∷ []) old new
  call_unready key meant old mid new r same forgets = record {
    passage = record {
      known = λ k e. r.known k (sym same ∙ e);
      moments = λ h e. subst (Runs _ h) (sym same) (run_weaken _ _ h mid.history (λ c w. elim w as (λ _. OffersOneOf h.held (list_of h.held old) (all_stepped (list_of h.held old) (meant h.held)) c) [ inl y ↦ inl y | inr y ↦ inr (inl y) ]) (rebuild_moments old mid r h e));
      allows = λ h e allowed w pass.
          let s = rebuilt_within old mid r h e allowed w in
          record {
            moments = subst (Runs _ h) (sym same) s.moments;
            within = λ k e'. record {
              offers_allowed = (s.within k (sym same ∙ e')).offers_allowed;
              keeps_allowed = subst (Pass allowed) (ap values_of (sym (dropped h e k e'))) (laws.steps_allowed allowed (list_of h.held old) (Drop key ∷ []) w.keeps_allowed tt);
            };
          };
    };
    list = dropped;
    others = λ h e k e' other ne. laws.entries_edits other h.held k.held (same_entries old mid r h k e (sym same ∙ e'));
  } where
    dropped : (h : FolderHistory) → old.history ≡ Some h → (k : FolderHistory) → new.history ≡ Some k → list_of k.held new ≡ without key (list_of h.held old)
    dropped h e k e' = ap (listed k.held) forgets ∙ laws.others_listed key k.held k.held (entries mid) (λ name j v x. refl)
        ∙ ap (without key) (rebuilt_list old mid r h k e (sym same ∙ e'))

  -- ---- a rebuild, and then a call

  pub passage_ready : (meant : Steps) (old mid new : CacheState) → Rebuilds old mid → ((f g : Folder) → SameEntries f g → meant g ≡ meant f) → Passage meant mid new → Passage meant old new
  passage_ready meant old mid new r stable x = record {
    known = known_more old.history mid.history new.history r.known x.known;
    moments = λ h e.
        let now : Folder → Type 0 = OffersOneOf h.held (list_of h.held old) (all_stepped (list_of h.held old) (meant h.held)) in
        let first : Runs now h mid.history = run_weaken (BuildMoment h.held old) now h mid.history (λ c w. elim w as (λ _. now c) [ inl y ↦ inl y | inr y ↦ inr (inl y) ]) (rebuild_moments old mid r h e) in
        let m : FolderHistory = passed_through first.contents h in
        let same = rebuilt_list old mid r h m e first.after_is in
        let steps = stable h.held m.held (same_entries old mid r h m e first.after_is) in
        run_more now h mid.history new.history first
        (run_weaken (OffersOneOf m.held (list_of h.held old) (all_stepped (list_of h.held old) (meant h.held))) now m new.history
        (λ c w. elim w as (λ _. now c) [
          | inl y ↦ elim first.here as (λ _. now c) [
            | inl z ↦ inl (y ∙ z)
            | inr z ↦ inr (elim z as (λ _. OffersEither (list_of h.held old) (all_stepped (list_of h.held old) (meant h.held)) c) [ inl v ↦ inl (y ∙ v) | inr v ↦ inr (y ∙ v) ])
          ]
          | inr y ↦ inr y
        ])
        (subst (λ p. Runs p m new.history) (λ i c. OffersOneOf m.held (same i) (all_stepped (same i) (steps i)) c) (x.moments m first.after_is)));
    allows = λ h e allowed w pass.
        let s = rebuilt_within old mid r h e allowed w in
        let m : FolderHistory = passed_through s.moments.contents h in
        let steps = stable h.held m.held (same_entries old mid r h m e s.moments.after_is) in
        let t = x.allows m s.moments.after_is allowed (s.within m s.moments.after_is) (subst (λ l. Pass allowed (handed_by l)) (sym steps) pass) in
        record { moments = run_more _ h mid.history new.history s.moments t.moments; within = t.within };
  }

  pub call_ready : (key : List ℕ) (meant made : Steps) (old mid new : CacheState) → Rebuilds old mid → ((f g : Folder) → SameEntries f g → meant g ≡ meant f) → ((f g : Folder) → SameEntries f g → made g ≡ made f)
      → CallOn key meant made mid new → CallOn key meant made old new
  call_ready key meant made old mid new r stable stable' x = record {
    passage = passage_ready meant old mid new r stable x.passage;
    list = λ h e k e'. let m = x.passage.known k e' in x.list m.0 m.1 k e' ∙ (λ i. all_stepped (rebuilt_list old mid r h m.0 e m.1 i) (stable' h.held m.0.held (same_entries old mid r h m.0 e m.1) i));
    others = λ h e k e' other ne. let m = x.passage.known k e' in x.others m.0 m.1 k e' other ne ∙ laws.entries_edits other h.held m.0.held (same_entries old mid r h m.0 e m.1);
  }

  -- ---- a call, and then a rebuild

  pub call_rebuilt : (key : List ℕ) (steps : Steps) (old mid new : CacheState) → CallOn key steps steps old mid → Rebuilds mid new → CallOn key steps steps old new
  call_rebuilt key steps old mid new x r = record {
    passage = record {
      known = known_more old.history mid.history new.history x.passage.known r.known;
      moments = λ h e.
          let now : Folder → Type 0 = OffersOneOf h.held (list_of h.held old) (all_stepped (list_of h.held old) (steps h.held)) in
          let first : Runs now h mid.history = x.passage.moments h e in
          let m : FolderHistory = passed_through first.contents h in
          run_more now h mid.history new.history first
          (run_weaken (BuildMoment m.held mid) now m new.history (λ c w. elim w as (λ _. now c) [
            | inl y ↦ elim first.here as (λ _. now c) [
              | inl z ↦ inl (y ∙ z)
              | inr z ↦ inr (elim z as (λ _. OffersEither (list_of h.held old) (all_stepped (list_of h.held old) (steps h.held)) c) [ inl v ↦ inl (y ∙ v) | inr v ↦ inr (y ∙ v) ])
            ]
            | inr y ↦ inr (inr (y ∙ ap offers (x.list h e m first.after_is)))
          ]) (rebuild_moments mid new r m first.after_is));
      allows = λ h e allowed w pass.
          let s = x.passage.allows h e allowed w pass in
          let m : FolderHistory = passed_through s.moments.contents h in
          let t = rebuilt_within mid new r m s.moments.after_is allowed (s.within m s.moments.after_is) in
          record { moments = run_more _ h mid.history new.history s.moments t.moments; within = t.within };
    };
    list = λ h e k e'. let m = r.known k e' in rebuilt_list mid new r m.0 k m.1 e' ∙ x.list h e m.0 m.1;
    others = λ h e k e' other ne. let m = r.known k e' in laws.entries_edits other m.0.held k.held (same_entries mid new r m.0 k m.1 e') ∙ x.others h e m.0 m.1 other ne;
  }

  -- ---- no call at all, and a rebuild alone

  pub passage_none : (s : CacheState) → Passage (λ f. []) s s
  passage_none s = record {
    known = λ k e. (k, e);
    moments = λ h e. run_none _ h s.history e (inl refl);
    allows = λ h e allowed w pass. record {
      moments = run_none (λ c. Pass allowed (offered c)) h s.history e w.offers_allowed;
      within = λ k e'. subst (λ (m : FolderHistory). IsWithin allowed m.held (entries s)) (same_some h k (sym e ∙ e')) w;
    };
  }

  call_none : (key : List ℕ) (s : CacheState) → CallOn key (λ f. []) (λ f. []) s s
  call_none key s = record {
    passage = passage_none s;
    list = λ h e k e'. ap (λ (m : FolderHistory). list_of m.held s) (same_some k h (sym e' ∙ e));
    others = λ h e k e' other ne. ap (λ (m : FolderHistory). get m.held (edit_name other)) (same_some k h (sym e' ∙ e));
  }

  pub call_rebuild : (key : List ℕ) (old new : CacheState) → Rebuilds old new → CallOn key (λ f. []) (λ f. []) old new
  call_rebuild key old new r = call_rebuilt key (λ f. []) old old new (call_none key old) r

  -- ---- what the cache answers

  pub answers_then : (any : List ℕ) (a b c : CacheState) → WasKnown b.history c.history → StillAnswers any a b → StillAnswers any b c → StillAnswers any a c
  answers_then any a b c known x y h e k e' same = let m = known k e' in y m.0 m.1 k e' (x h e m.0 m.1 same)

  -- the same table, and a list that has the same of the key
  pub answers_same : (any : List ℕ) (old new : CacheState) → entries new ≡ entries old → IfKnown old.history (λ h. IfKnown new.history (λ k. list_of k.held new ≡ list_of h.held old)) → StillAnswers any old new
  answers_same any old new is list h e k e' same = subst (λ t. SameLength any t (list_of k.held new)) (sym is) (subst (SameLength any (entries old)) (sym (list h e k e')) same)

  pub answers_rebuilt : (any : List ℕ) (old new : CacheState) → Rebuilds old new → StillAnswers any old new
  answers_rebuilt any old new r = answers_same any old new r.entries_are (λ h e k e'. rebuilt_list old new r h k e e')

  -- a key was forgotten, and the list dropped it
  pub answers_forgot : (key any : List ℕ) (old new : CacheState) → entries new ≡ without key (entries old) → IfKnown old.history (λ h. IfKnown new.history (λ k. list_of k.held new ≡ without key (list_of h.held old))) → StillAnswers any old new
  answers_forgot key any old new is list h e k e' same =
      subst (λ t. SameLength any t (list_of k.held new)) (sym is) (subst (SameLength any (without key (entries old))) (sym (list h e k e')) (laws.length_dropped any key (entries old) (list_of h.held old) same))

  -- a key has lost its value
  pub answers_lost : (key : List ℕ) (old new : CacheState) → entries new ≡ entries old → IfKnown old.history (λ h. IfKnown new.history (λ k. without key (list_of k.held new) ≡ without key (list_of h.held old)))
      → (other : List ℕ) → other ≢ key → StillAnswers other old new
  answers_lost key old new is others other ne h e k e' same =
      subst (λ t. SameLength other t (list_of k.held new)) (sym is) (laws.length_others key other (entries old) (list_of h.held old) (list_of k.held new) ne (others h e k e') same)

  -- ---- an eviction that failed

  abbrev pub Lost : List ℕ → CacheState → CacheState → Type 0
  Lost key old new = IfKnown old.history (λ h. IfKnown new.history (λ k. MayLose key h.held k.held))

  pub stays_now : (key : List ℕ) (old new : CacheState) → WasKnown old.history new.history → MeantWays key (drop_steps key) old new → Lost key old new → entries new ≡ entries old → edits new ≡ edits old → Stays key old new
  stays_now key old new known ways lost entries_are edits_are = record {
    passage = record {
      known = known;
      moments = λ h e. run_weaken _ _ h new.history (λ c w. inr w.0) (ways h e);
      allows = λ h e allowed w pass.
          let moments : Runs (λ c. Pass allowed (offered c)) h new.history = run_weaken _ (λ c. Pass allowed (offered c)) h new.history
          (λ c x. elim x.0 as (λ _. Pass allowed (offered c)) [
            | inl y ↦ subst (Pass allowed) (sym y) (laws.offers_allowed allowed (list_of h.held old) w.keeps_allowed)
            | inr y ↦ subst (Pass allowed) (sym y) (laws.offers_allowed allowed (without key (list_of h.held old)) (laws.steps_allowed allowed (list_of h.held old) (Drop key ∷ []) w.keeps_allowed tt))
          ]) (ways h e) in
          record {
            moments = moments;
            within = λ k e'. record {
              offers_allowed = run_has _ h k new.history moments e';
              keeps_allowed = subst (λ t. Pass allowed (values_of (listed k.held t))) (sym entries_are) (laws.lost_allowed allowed key h.held k.held (entries old) (lost h e k e') w.keeps_allowed);
            };
          };
    };
    entries_are = entries_are;
    edits_are = edits_are;
    others = λ h e k e'. ap (λ t. without key (listed k.held t)) entries_are ∙ laws.lost_listed key h.held k.held (entries old) (lost h e k e');
    answers = answers_lost key old new entries_are (λ h e k e'. ap (λ t. without key (listed k.held t)) entries_are ∙ laws.lost_listed key h.held k.held (entries old) (lost h e k e'));
    files = λ h e k e' any. laws.lost_edits key any h.held k.held (lost h e k e');
  }

  pub stays_unready : (key : List ℕ) (old new : CacheState) → Rebuilds old new → Stays key old new
  stays_unready key old new r = record {
    passage = record {
      known = r.known;
      moments = λ h e. run_weaken _ _ h new.history (λ c w. elim w as (λ _. OffersOneOf h.held (list_of h.held old) (without key (list_of h.held old)) c) [ inl y ↦ inl y | inr y ↦ inr (inl y) ]) (rebuild_moments old new r h e);
      allows = λ h e allowed w pass. rebuilt_within old new r h e allowed w;
    };
    entries_are = r.entries_are;
    edits_are = r.edits_are;
    others = λ h e k e'. ap (without key) (rebuilt_list old new r h k e e');
    answers = λ other ne. answers_rebuilt other old new r;
    files = λ h e k e' any. laws.entries_edits any h.held k.held (same_entries old new r h k e e');
  }

  pub stays_after : (key : List ℕ) (old mid new : CacheState) → Rebuilds old mid → Stays key mid new → Stays key old new
  stays_after key old mid new r x = record {
    passage = passage_ready (drop_steps key) old mid new r (λ f g same. refl) x.passage;
    entries_are = x.entries_are ∙ r.entries_are;
    edits_are = x.edits_are ∙ r.edits_are;
    others = λ h e k e'. let m = x.passage.known k e' in x.others m.0 m.1 k e' ∙ ap (without key) (rebuilt_list old mid r h m.0 e m.1);
    answers = λ other ne. answers_then other old mid new x.passage.known (answers_rebuilt other old mid r) (x.answers other ne);
    files = λ h e k e' any. let m = x.passage.known k e' in x.files m.0 m.1 k e' any ∙ laws.entries_edits any h.held m.0.held (same_entries old mid r h m.0 e m.1);
  }

  -- ---- a whole call

  pub makes_by : (key : List ℕ) (steps : Steps) (old a b new : CacheState) → Rebuilds old a → ((f g : Folder) → SameEntries f g → steps g ≡ steps f) → Took key steps a b → Rebuilds b new → IsSettled new → Makes key steps old new
  makes_by key steps old a b new r stable x r' settled = record {
    call = call_rebuilt key steps old b new (call_ready key steps steps old a b r stable stable x.call) r';
    offers_now = λ k e. let m = r'.known k e in rebuilt_offers b new r' m.0 k m.1 e (x.offers_now m.0 m.1);
    answers = λ any. answers_then any old b new r'.known (answers_then any old a b x.call.passage.known (answers_rebuilt any old a r) (x.answers any)) (answers_rebuilt any b new r');
    settled = settled;
  }

  pub fails_after : (key : List ℕ) (steps : Steps) (old mid new : CacheState) → Rebuilds old mid → ((f g : Folder) → SameEntries f g → steps g ≡ steps f) → Fails key steps mid new → Fails key steps old new
  fails_after key steps old mid new r stable x = record {
    forgets = record {
      entries_are = x.forgets.entries_are ∙ ap (without key) r.entries_are;
      edit = record {
        edits_are = x.forgets.edit.edits_are ∙ ap (λ l. closed_at (edit_of key l) l) r.edits_are;
        own = x.forgets.edit.own;
        others = λ other ne. x.forgets.edit.others other ne ∙ ap (edit_of other) r.edits_are;
      };
      due = x.forgets.due;
    };
    call = call_ready key steps (λ f. Drop key ∷ []) old mid new r stable (λ f g same. refl) x.call;
    answers = λ any. answers_then any old mid new x.call.passage.known (answers_rebuilt any old mid r) (x.answers any);
  }
