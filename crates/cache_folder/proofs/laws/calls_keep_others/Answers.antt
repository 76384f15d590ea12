use Rattle.std.proofs.Common.{◌≡◌, ◌≢◌, ◌∙◌, ℕ, List, [], length, refl, ap, unwrap_or, arith}
use Rattle.outside.specs.Files.{Folder}
use Rattle.disk_table.specs.UseOrder.{without}
use Rattle.cache_folder.specs.Offered.{edit_name}
use Rattle.cache_folder.specs.Tables.{Table, kept_by, kept}
use Rattle.cache_folder.specs.Sound.{Fits, IsKept, SameBut, SameEntries}
use Rattle.cache_folder.proofs.Allowed.{steps_pass, offers_pass}
use Rattle.cache_folder.proofs.Apart.{journal-edit, value-edit, edit-edit, flip}
use Rattle.cache_folder.proofs.Journaled.{JournalLaws}
use Rattle.cache_folder.proofs.Lost.{lost_kept, lost_listed, lost_edit, lost_allowed}
use Rattle.cache_folder.proofs.Lookups.{answer_committed, known_left, other_answer, answer_left, list_answers, answers_offered, length_begun, length_committed, length_dropped, length_aborted, length_used, length_written, length_others}
use Rattle.cache_folder.proofs.Kept.{edit_none, known_kept, few_kept}
use Rattle.cache_folder.proofs.Mapped.{all_without, length_without, once_without, once_mapped}
use Rattle.cache_folder.proofs.Calls.{fits_other, other_values, listed_without, listed_all, offered_sound, edit_fits}
use Rattle.cache_folder.proofs.NewJournal.{kept_same, entries_values, entries_edits}
use Rattle.cache_folder.proofs.laws.calls_keep_others.Goals as goal

module _ (laws : JournalLaws) where
  kept_others : (key : List ℕ) (f g : Folder) (t : Table) → SameBut key f g → IsKept f t → IsKept g (without key t)
  kept_others key f g t same k = record {
    files = all_without (Fits f) (Fits g) key (fits_other laws f g key same) t k.files;
    count = omega (arith, length_without key t, k.count);
    once = once_without key t k.once;
  }

pub returns : goal.returns
returns c =
    let laws : JournalLaws = record { text = c.text_is_its_lines.ensures.text; unbroken = c.text_is_its_lines.ensures.unbroken } in
    record {
      others_kept = kept_others laws;
      others_listed = λ key f g t same. listed_without laws f g key t (other_values laws f g key same);
      others_edits = λ key k f g same ne. same (edit_name k) (flip _ _ (journal-edit k)) (flip _ _ (value-edit key k)) (edit-edit k key ne);
      entries_kept = kept_same laws;
      entries_listed = λ f g t same. listed_all laws f g t (entries_values laws f g same);
      entries_edits = λ k f g same. entries_edits laws f g same k;
      lost_kept = λ key f g t lost. lost_kept key f g lost t;
      lost_listed = λ key f g t lost. lost_listed key f g lost t;
      lost_edits = λ key k f g lost. lost_edit key f g lost k;
      lost_allowed = λ allowed key f g t lost. lost_allowed key f g lost allowed t;
      sound_offers = offered_sound laws;
      steps_allowed = steps_pass;
      offers_allowed = offers_pass;
      list_answers = list_answers;
      answers_offered = answers_offered;
      answer_left = answer_left;
      other_answer = other_answer;
      length_begun = length_begun;
      length_committed = length_committed;
      length_aborted = length_aborted;
      length_used = length_used;
      length_written = length_written;
      length_dropped = length_dropped;
      length_others = length_others;
      answer_committed = answer_committed;
      known_kept = λ key t. known_kept t key;
      known_left = λ key other t ne. known_left key other t ne;
      once_kept = λ t once. once_mapped (kept_by t.table.edits t.written) t.table.entries once;
      few_kept = λ t few. few_kept t (kept t) refl few;
      closed_kept = λ key t none. edit_none t.table.edits t.written key t.table.entries none;
      edit_length = λ key n f t kept open'. let there = edit_fits laws f key t n kept.files open' in ap (λ o. length (unwrap_or o [])) there.1 ∙ there.2;
    }
