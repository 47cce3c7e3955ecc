-- The theorems of the sign reader, each for every text.
use Rattle.std.proofs.Common.{◌≡◌, ℕ, ◌<◌, ◌≤◌, Bool, true, false, ltb, List, length, Ok, Err, Result, sym, refl, ap, ◌∙◌, subst}
use Rattle.std.proofs.lemmas.Bool.{both_ways, cond-true, cond-false, lt-ltb, le-ltb, ltb-true, ltb-false}
use Rattle.signs.specs.declared.fault.SignFault.{SignFault}
use Rattle.signs.specs.declared.fault.SignFault.TheVariants.{TextTooLong, StrayByte, NameTooLong}
use Rattle.signs.specs.Signs.{Mark, signs_from, signs_of}
use Rattle.signs.specs.Spelling.{SignsGiveTheTextBack, SpellingSignsAreRead, OneListOfSigns}
use Rattle.signs.specs.FirstFault.{SoundTextHasItsSigns, RefusedAtTheFirstFault}
use Rattle.signs.proofs.Spelled.{read_spells, spelled_read}
use Rattle.signs.proofs.FirstFault.{Whole, whole, stray_read, long_read, sound_read}

-- a text of at most 4,096 bytes is read from its first byte on, and a longer one is refused
pub read_within : (text : List ℕ) → length text ≤ 4096 → signs_of text ≡ signs_from false 0 text
read_within text h = cond-false _ _ _ (le-ltb 4096 (length text) h)

pub refused_beyond : (text : List ℕ) → 4096 < length text → signs_of text ≡ Err TextTooLong
refused_beyond text h = cond-true _ _ _ (lt-ltb 4096 (length text) h)

-- what is not refused for its length is read from a text of at most 4,096 bytes
abbrev too_long : Result (List Mark) SignFault → Bool
too_long (Ok ms) = false
too_long (Err TextTooLong) = true
too_long (Err (StrayByte place)) = false
too_long (Err (NameTooLong place)) = false

unless_too_long : (text : List ℕ) (r : Result (List Mark) SignFault) → signs_of text ≡ r → too_long r ≡ false → (length text ≤ 4096) × (signs_from false 0 text ≡ r)
unless_too_long text r h other = go (ltb 4096 (length text)) refl
  where
    go : (x : Bool) → ltb 4096 (length text) ≡ x → (length text ≤ 4096) × (signs_from false 0 text ≡ r)
    go true e = absurd (both_ways (too_long r) other (sym (ap too_long (sym (refused_beyond text (ltb-true 4096 (length text) e)) ∙ h))))
    go false e =
        let within = ltb-false 4096 (length text) e in
        (within, sym (read_within text within) ∙ h)

pub signs_give_the_text_back : (text : List ℕ) → SignsGiveTheTextBack text
signs_give_the_text_back text ms h = read_spells text ms (unless_too_long text (Ok ms) h refl).1

pub spelling_signs_are_read : (text : List ℕ) → SpellingSignsAreRead text
spelling_signs_are_read text ms h s = read_within text h ∙ spelled_read 0 text ms s

pub one_list_of_signs : (text : List ℕ) → OneListOfSigns text
one_list_of_signs text ms ns s t =
    let same : ◌≡◌ {A = Result (List Mark) SignFault} (Ok ms) (Ok ns) = sym (spelled_read 0 text ms s) ∙ spelled_read 0 text ns t in
    cc

pub sound_text_has_its_signs : (text : List ℕ) → SoundTextHasItsSigns text
sound_text_has_its_signs text h sound =
    let r = sound_read text sound (signs_from false 0 text) (whole text) in
    let spells = read_spells text r.0 r.1 in
    (r.0, read_within text h ∙ r.1, spells, λ ns s. one_list_of_signs text ns r.0 s spells)

pub refused_at_the_first_fault : (text : List ℕ) → RefusedAtTheFirstFault text
refused_at_the_first_fault text =
    record {
      length_alone = (beyond, refused_beyond text);
      stray_byte = λ place. (
        λ h.
            let r = unless_too_long text (Err (StrayByte place)) h refl in
            let w = subst (Whole text) r.1 (whole text) in
            (r.0, w.0, w.1),
        λ f. read_within text f.0 ∙ stray_read text place f.1 f.2 (signs_from false 0 text) (whole text),
      );
      long_name = λ place. (
        λ h.
            let r = unless_too_long text (Err (NameTooLong place)) h refl in
            let w = subst (Whole text) r.1 (whole text) in
            (r.0, w.0, w.1),
        λ f. read_within text f.0 ∙ long_read text place f.1 f.2 (signs_from false 0 text) (whole text),
      );
    }
  where
    beyond : signs_of text ≡ Err TextTooLong → 4096 < length text
    beyond h = go (ltb 4096 (length text)) refl
      where
        go : (x : Bool) → ltb 4096 (length text) ≡ x → 4096 < length text
        go true e = ltb-true 4096 (length text) e
        go false e = absurd (subst (Whole text) (sym (read_within text (ltb-false 4096 (length text) e)) ∙ h) (whole text))
