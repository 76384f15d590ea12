-- Names of files that differ.
use Rattle.std.proofs.Common.{◌≡◌, ◌≢◌, ℕ, List, [], ◌∷◌, ◌++◌, refl, sym, ap, ◌∙◌, length, take, arith, codes, get_or, append_assoc}
use Rattle.std.proofs.Math.Seq.{take-append_seam}
use Rattle.std.proofs.lemmas.List.{length-append}
use Rattle.cache_folder.specs.Offered.{journal_name, journal_tmp, journal_bkp, value_name, edit_name}

-- the last byte
abbrev ending : List ℕ → ℕ
ending [] = 0
ending (x ∷ []) = x
ending (x ∷ (y ∷ ys)) = ending (y ∷ ys)

ending-append : (xs : List ℕ) (y : ℕ) (ys : List ℕ) → ending (xs ++ y ∷ ys) ≡ ending (y ∷ ys)
ending-append [] y ys = refl
ending-append (x ∷ []) y ys = refl
ending-append (x ∷ (x' ∷ xs)) y ys = ending-append (x' ∷ xs) y ys

by_ending : (a b : List ℕ) (m n : ℕ) → ending a ≡ m → ending b ≡ n → m ≢ n → a ≢ b
by_ending a b m n ea eb ne same = ne (sym ea ∙ ap ending same ∙ eb)

value_end : (k : List ℕ) → ending (value_name k) ≡ 48
value_end k = ending-append k 46 (48 ∷ [])

edit_end : (k : List ℕ) → ending (edit_name k) ≡ 112
edit_end k = ending-append k 46 (48 ∷ 46 ∷ 116 ∷ 109 ∷ 112 ∷ [])

pub journal-value : (k : List ℕ) → journal_name ≢ value_name k
journal-value k = by_ending _ _ 108 48 refl (value_end k) (λ e. absurd (omega (arith, e)))

pub journal-edit : (k : List ℕ) → journal_name ≢ edit_name k
journal-edit k = by_ending _ _ 108 112 refl (edit_end k) (λ e. absurd (omega (arith, e)))

pub value-edit : (j k : List ℕ) → value_name j ≢ edit_name k
value-edit j k = by_ending _ _ 48 112 (value_end j) (edit_end k) (λ e. absurd (omega (arith, e)))

cancel_right : (a b c : List ℕ) → a ++ c ≡ b ++ c → a ≡ b
cancel_right a b c e =
    let len : length a ≡ length b = omega (arith, length-append a c, length-append b c, ap length e) in
    sym (take-append_seam a c) ∙ ap (take (length a)) e ∙ ap (λ n. take n (b ++ c)) len ∙ take-append_seam b c

pub value-value : (j k : List ℕ) → j ≢ k → value_name j ≢ value_name k
value-value j k ne same = ne (cancel_right j k (codes ".0") same)

pub edit-edit : (j k : List ℕ) → j ≢ k → edit_name j ≢ edit_name k
edit-edit j k ne same = ne (cancel_right j k (codes ".0.tmp") same)

pub flip : (a b : List ℕ) → a ≢ b → b ≢ a
flip a b ne same = ne (sym same)

-- `journal.tmp` and `journal.bkp`
pub value-tmp : (k : List ℕ) → value_name k ≢ journal_tmp
value-tmp k = by_ending _ _ 48 112 (value_end k) refl (λ e. absurd (omega (arith, e)))

pub value-bkp : (k : List ℕ) → value_name k ≢ journal_bkp
value-bkp k = by_ending _ _ 48 112 (value_end k) refl (λ e. absurd (omega (arith, e)))

pub journal-tmp : journal_name ≢ journal_tmp
journal-tmp = by_ending _ _ 108 112 refl refl (λ e. absurd (omega (arith, e)))

pub journal-bkp : journal_name ≢ journal_bkp
journal-bkp = by_ending _ _ 108 112 refl refl (λ e. absurd (omega (arith, e)))

pub tmp-bkp : journal_tmp ≢ journal_bkp
tmp-bkp same = let e : 116 ≡ 98 = ap (λ l. get_or l 8 0) same in absurd (omega (arith, e))

-- an edit's file has a dot and a digit before its last dot
pub edit-tmp : (k : List ℕ) → edit_name k ≢ journal_tmp
edit-tmp k same = journal-value k (sym (cancel_right (value_name k) journal_name (codes ".tmp") (append_assoc k (codes ".0") (codes ".tmp") ∙ same)))

pub edit-bkp : (k : List ℕ) → edit_name k ≢ journal_bkp
edit-bkp k same = by_ending (k ++ codes ".0.tm") (codes "journal.bk") 109 107 (ending-append k 46 (48 ∷ 46 ∷ 116 ∷ 109 ∷ [])) refl (λ e. absurd (omega (arith, e))) (cancel_right (k ++ codes ".0.tm") (codes "journal.bk") (codes "p") (append_assoc k (codes ".0.tm") (codes "p") ∙ same))
