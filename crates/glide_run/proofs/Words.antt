-- Words that are read one after the other.
use Rattle.std.proofs.Common.{◌≡◌, ℕ, ◌+◌, ◌<◌, suc, Bool, true, false, cond, List, [], ◌∷◌, length, map, drop, get_or, ltb, Some, None, Option, refl, ap, sym, ◌∙◌, arith}
use Rattle.std.proofs.Math.Seq.{drop-cons}
use Rattle.std.specs.Prelude.{codes}
use Rattle.std.proofs.lemmas.Bool.{ltb-true}
use Rattle.std.specs.Str.{bytes_eq}
use Rattle.script_lines.specs.Options.{◌>>=◌}
use Rattle.glide_run.specs.Settings.{with_stats, and_size, and_words}
use Rattle.glide_run.specs.declared.settings.Said.{Said}

abbrev stats_word : List ℕ
stats_word = codes "--stats"

and_none : (said : Option Said) → said ≡ (said >>= (λ more. Some more))
and_none None = refl
and_none (Some said) = refl

stats_first : (said : Said) (word : List ℕ) (words : List (List ℕ)) → bytes_eq word stats_word ≡ true → and_words said (word ∷ words) ≡ (with_stats said >>= (λ more. and_words more words))
stats_first said word [] is = ap (λ b. cond b (with_stats said) None) is ∙ and_none (with_stats said)
stats_first said word (next ∷ words) is = ap (λ b. cond b (with_stats said >>= (λ more. and_words more (next ∷ words))) (and_size said word next >>= (λ more. and_words more words))) is

size_first : (said : Said) (word number : List ℕ) (words : List (List ℕ)) → bytes_eq word stats_word ≡ false → and_words said (word ∷ number ∷ words) ≡ (and_size said word number >>= (λ more. and_words more words))
size_first said word number words not = ap (λ b. cond b (with_stats said >>= (λ more. and_words more (number ∷ words))) (and_size said word number >>= (λ more. and_words more words))) not

-- ---- the words that are left at a place

module _ {A : Type 0} (now : A → List ℕ) (other : A) (said : Said) (words : List A) (at : ℕ) (within : at < length words) where
  abbrev word : List ℕ
  word = now (get_or words at other)

  left_is : (next : ℕ) → suc at ≡ next → map now (drop at words) ≡ word ∷ map now (drop next words)
  left_is next e = ap (map now) (drop-cons words at other within) ∙ ap (λ n. word ∷ map now (drop n words)) e

  at_stats : bytes_eq word stats_word ≡ true → and_words said (map now (drop at words)) ≡ (with_stats said >>= (λ more. and_words more (map now (drop (at + 1) words))))
  at_stats is = ap (and_words said) (left_is (at + 1) (omega arith)) ∙ stats_first said word (map now (drop (at + 1) words)) is

  pub stats_twice : bytes_eq word stats_word ≡ true → with_stats said ≡ None → and_words said (map now (drop at words)) ≡ None
  stats_twice is none = at_stats is ∙ ap (λ o. o >>= (λ more. and_words more (map now (drop (at + 1) words)))) none

  pub stats_once : (more : Said) → bytes_eq word stats_word ≡ true → with_stats said ≡ Some more → and_words said (map now (drop at words)) ≡ and_words more (map now (drop (at + 1) words))
  stats_once more is some = at_stats is ∙ ap (λ o. o >>= (λ more. and_words more (map now (drop (at + 1) words)))) some

  module _ (number : A) (there : ltb (at + 1) (length words) ≡ true) (found : number ≡ get_or words (at + 1) number) (not : bytes_eq word stats_word ≡ false) where
    number_is : map now (drop (at + 1) words) ≡ now number ∷ map now (drop (at + 2) words)
    number_is =
        let two : suc (at + 1) ≡ at + 2 = omega arith in
        ap (map now) (drop-cons words (at + 1) number (ltb-true (at + 1) (length words) there))
        ∙ (λ i. now (sym found i) ∷ map now (drop (two i) words))

    at_size : and_words said (map now (drop at words)) ≡ (and_size said word (now number) >>= (λ more. and_words more (map now (drop (at + 2) words))))
    at_size =
        ap (and_words said) (left_is (at + 1) (omega arith) ∙ ap (λ l. word ∷ l) number_is)
        ∙ size_first said word (now number) (map now (drop (at + 2) words)) not

    pub size_refused : and_size said word (now number) ≡ None → and_words said (map now (drop at words)) ≡ None
    size_refused none = at_size ∙ ap (λ o. o >>= (λ more. and_words more (map now (drop (at + 2) words)))) none

    pub size_said : (more : Said) → and_size said word (now number) ≡ Some more → and_words said (map now (drop at words)) ≡ and_words more (map now (drop (at + 2) words))
    size_said more some = at_size ∙ ap (λ o. o >>= (λ more. and_words more (map now (drop (at + 2) words)))) some
