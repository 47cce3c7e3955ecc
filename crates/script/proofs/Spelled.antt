-- A word that is read byte by byte. Serves the reading of keywords.
use Rattle.std.proofs.Common.{◌≡◌, ℕ, suc, ◌+◌, List, [], ◌∷◌, length, get_or, drop, ◌∙◌, arith, drop-cons}
use Rattle.std.proofs.lemmas.List.{drop_all}

-- Each byte of the text stands in the word, from a place on.
abbrev pub Reads : List ℕ → ℕ → List ℕ → Type 0
Reads word k [] = Unit {0}
Reads word k (b ∷ bs) = (get_or word k 0 ≡ b) × Reads word (suc k) bs

reads_from : (word : List ℕ) (k : ℕ) (text : List ℕ) → length word ≡ k + length text → Reads word k text → drop k word ≡ text
reads_from word k [] long h = drop_all k word (omega (arith, long))
reads_from word k (b ∷ bs) long h =
    let rest = reads_from word (suc k) bs (omega (arith, long)) h.1 in
    drop-cons word k 0 (omega (arith, long)) ∙ λ i. h.0 i ∷ rest i

pub is_read : (word text : List ℕ) → length word ≡ length text → Reads word 0 text → word ≡ text
is_read word text long h = reads_from word 0 text (omega (arith, long)) h
