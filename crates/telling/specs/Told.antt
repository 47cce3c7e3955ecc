-- A run told in words: situations by their numbers and actions by their names, in turn.
use Rattle.std.specs.Prelude.{ℕ, cond, List, [], ◌∷◌, Some, None, Option, nat_lt}
use Rattle.std.specs.Option.{option_map}
use Rattle.sheet.specs.Naming.{NameList, meaning_of}
use Rattle.sheet.specs.declared.named.Named.{Named}
use Rattle.sheet.specs.declared.named.Named.TheVariants.{Test, Action}
use Rattle.words.specs.Number.{number_of}

-- A number is a situation where it is one of the n.
abbrev pub below : ℕ → Option ℕ → Option ℕ
below n None = None
below n (Some s) = cond (nat_lt s n) (Some s) None

abbrev pub situation_of : ℕ → List ℕ → Option ℕ
situation_of n word = below n (number_of word)

-- What is named is an action, or not.
abbrev pub if_action : Option Named → Option ℕ
if_action None = None
if_action (Some (Test t)) = None
if_action (Some (Action a)) = Some a

abbrev pub action_of : NameList → List ℕ → Option ℕ
action_of names word = if_action (meaning_of names word)

-- A situation and an action in front of a run.
abbrev pub in_front : Option ℕ → Option ℕ → Option (List ℕ) → Option (List ℕ)
in_front None action run = None
in_front (Some s) None run = None
in_front (Some s) (Some a) None = None
in_front (Some s) (Some a) (Some run) = Some (s ∷ a ∷ run)

-- The run s0 a1 s1 .. an sn that words tell, if they tell one: an odd number of words.
abbrev pub told_by : ℕ → NameList → List (List ℕ) → Option (List ℕ)
told_by n names [] = None
told_by n names (word ∷ []) = option_map (λ s. s ∷ []) (situation_of n word)
told_by n names (word ∷ action ∷ words) = in_front (situation_of n word) (action_of names action) (told_by n names words)
