-- A run that is read word by word: what was read, with what is still ahead, is the whole.
use Rattle.std.proofs.Common.{◌≡◌, ℕ, List, [], ◌∷◌, ◌++◌, Some, None, Option, sym, refl, ap, ◌∙◌, ap₂}
use Rattle.std.proofs.lemmas.List.{append_assoc}
use Rattle.sheet.specs.Naming.{NameList}
use Rattle.telling.specs.Told.{action_of, in_front, situation_of, told_by}

-- What was read, with what is still ahead.
abbrev pub ahead : List ℕ → Option (List ℕ) → Option (List ℕ)
ahead run None = None
ahead run (Some more) = Some (run ++ more)

-- A situation and an action are read.
two_read : (run : List ℕ) (s a : ℕ) (more : Option (List ℕ)) → ahead ((run ++ s ∷ []) ++ a ∷ []) more ≡ ahead run (in_front (Some s) (Some a) more)
two_read run s a None = refl
two_read run s a (Some more) = ap Some (append_assoc (run ++ s ∷ []) (a ∷ []) more ∙ append_assoc run (s ∷ []) (a ∷ more))

module _ (n : ℕ) (names : NameList) where
  -- A turn of the loop: a situation and an action are read, and put behind what was read.
  pub turn : (whole : Option (List ℕ)) (run more last : List ℕ) (words behind rest : List (List ℕ)) (word action : List ℕ) (s a : ℕ)
      → ahead run (told_by n names words) ≡ whole → words ≡ word ∷ behind → behind ≡ action ∷ rest → Some s ≡ situation_of n word → Some a ≡ action_of names action
      → more ≡ run ++ s ∷ [] → last ≡ more ++ a ∷ [] → ahead last (told_by n names rest) ≡ whole
  turn whole run more last words behind rest word action s a inv first second told named one two =
      ap (λ xs. ahead xs (told_by n names rest)) (two ∙ ap (λ xs. xs ++ a ∷ []) one)
      ∙ two_read run s a (told_by n names rest)
      ∙ ap₂ (λ s a. ahead run (in_front s a (told_by n names rest))) told named
      ∙ ap (λ ws. ahead run (told_by n names (word ∷ ws))) (sym second)
      ∙ ap (λ ws. ahead run (told_by n names ws)) (sym first)
      ∙ inv
