-- How a refusal is told in words.
use Rattle.std.specs.Prelude.{ℕ, List, ◌++◌, codes, decimal}
use Rattle.refusals.specs.declared.Layer.{Layer}
use Rattle.refusals.specs.declared.Layer as layer
use Rattle.refusals.specs.declared.Refusal.{Refusal}

-- The layers by their words.
abbrev pub layer_word : Layer → List ℕ
layer_word layer.TheVariants.Vocabulary = codes "vocabulary"
layer_word layer.TheVariants.Names = codes "names"
layer_word layer.TheVariants.Signs = codes "signs"
layer_word layer.TheVariants.Rule = codes "rule"
layer_word layer.TheVariants.Chart = codes "chart"
layer_word layer.TheVariants.Book = codes "book"
layer_word layer.TheVariants.Walk = codes "walk"

-- A refusal: its layer, number and place.
abbrev pub refusal_text : Refusal → List ℕ
refusal_text refusal = codes "refused, " ++ (layer_word refusal.layer ++ (codes " " ++ (decimal refusal.number ++ (codes " at " ++ decimal refusal.place))))
