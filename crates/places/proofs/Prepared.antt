-- The flow that is prepared is that of the rule's places.
use Rattle.std.proofs.Common.{◌≡◌, ℕ, ◌≤◌, length, ap, ◌∙◌, subst, arith}
use Rattle.sheet.specs.Laid.{LaidOut}
use Rattle.kat.specs.Places.{place_flow}
use Rattle.kat.specs.Terms.{Term}
use Rattle.runs.specs.Flows.{Lawful}
use Rattle.tables.specs.Tables.{SameOnCodes, TablesOf, table_flow}
use Rattle.tables.proofs.Tables.{same_numbered, same_on_codes, same_runs}
use Rattle.vocabulary.specs.Meaning.{VocabularyMeaning}
use Rattle.places.specs.Meaning.{IsThePlacesOf, places_on}

-- Where the tables are those of a term, the flow that they tell is that of its places.
pub prepared : (laid : LaidOut) (m : VocabularyMeaning) (e : Term) (n k : ℕ) (last : ℕ → ℕ) (next : ℕ → ℕ → ℕ) (own : ℕ → ℕ)
    → Lawful (table_flow n k last next own) → m ≡ laid.meaning → n ≡ m.situations → k ≡ length laid.names.actions → TablesOf n k m.holds e last next own
    → IsThePlacesOf laid e (table_flow n k last next own)
prepared laid m e n k last next own lawful is_m is-n is-k tables =
    let same : n ≡ laid.meaning.situations = is-n ∙ ap (λ m. m.situations) is_m in
    let flow : place_flow n k m.holds e ≡ places_on laid e = λ i. place_flow (same i) (is-k i) (is_m i).holds e in
    let codes = subst (SameOnCodes (table_flow n k last next own)) flow (same_on_codes n k m.holds e last next own tables) in
    record {
      on_codes = codes;
      on_runs = same_runs (table_flow n k last next own) (places_on laid e) lawful codes;
      numbered = λ numbered. same_numbered n k m.holds e last next own tables numbered ∙ flow;
    }
