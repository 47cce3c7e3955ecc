-- The bytes of a name, what bytes become a name, and when two names are the same.
use Rattle.std.specs.Prelude.{ℕ, Bool, cond, List, take, Ok, Err, Result}
use Rattle.std.specs.Cmp.{IsEquivalence}
use Rattle.std.specs.Str.{bytes_eq}
use Rattle.std.proofs.lemmas.Slice.Eq.{bytes_eq-Decides}
use Rattle.keys.specs.Marks.{by_mark}
use Rattle.signs.specs.Names.{is_name}
use Rattle.sheet.specs.declared.fault.NameFault.{NameFault}
use Rattle.sheet.specs.declared.fault.NameFault.TheVariants.{NotAName}
use Rattle.sheet.specs.declared.name.Name.{Name}

-- The bytes of a name, as it was written.
abbrev pub bytes_of : Name → List ℕ
bytes_of name = take name.len name.bytes

-- What bytes become: a name with these bytes where they are one, else a refusal.
abbrev pub name_from : List ℕ → Result (List ℕ) NameFault
name_from bytes = cond (is_name bytes) (Ok bytes) (Err NotAName)

-- A name that was made, by its bytes.
abbrev pub spelling : Result Name NameFault → Result (List ℕ) NameFault
spelling (Ok name) = Ok (bytes_of name)
spelling (Err fault) = Err fault

-- Two names are the same where their bytes are.
abbrev pub same_name : Name → Name → Bool
same_name x y = bytes_eq (bytes_of x) (bytes_of y)

-- Sameness of names is reflexive, symmetric and transitive.
pub name_laws : IsEquivalence same_name
name_laws = by_mark bytes_of same_name (λ x y. bytes_eq-Decides (bytes_of x) (bytes_of y))
