-- The words on a circle, edge by edge.
use Rattle.std.proofs.Common.{◌≡◌, ℕ, ◌+◌, ◌<◌, ◌++◌, List, [], ◌∷◌, codes, length, take, get_or, ap, sym, ◌∙◌, refl, append-nil}
use Rattle.std.proofs.lemmas.List.{map-append, take_more, flat_map_more}
use Rattle.batch_cell.specs.declared.cell.Cell.{Cell}
use Rattle.batch_recipe.specs.declared.recipe.Recipe.{Recipe}
use Rattle.batch_check.specs.declared.edge.Edge.{Edge}
use Rattle.batch_messages.specs.CircleSentence.{IsCircleTold, IsEdgeTold, ToldEdge, circle_words, edge_words}

module _ (cell : Cell) (recipes : List Recipe) where
  pub told_first : IsCircleTold cell recipes [] (codes "batches can wait in a circle")
  told_first = record { told = []; each = refl; words = sym (append-nil (codes "batches can wait in a circle")) }

  pub told_more : (edges : List Edge) (i : ℕ) (edge d : Edge) (old words : List ℕ) → i < length edges → edge ≡ get_or edges i d
      → IsCircleTold cell recipes (take i edges) old → IsEdgeTold cell recipes edge words → IsCircleTold cell recipes (take (i + 1) edges) (old ++ words)
  told_more edges i edge d old words within is h e = record {
    told = h.told ++ e.told ∷ [];
    each =
        map-append (λ (t : ToldEdge). t.edge) h.told (e.told ∷ []) ∙ ap (λ xs. xs ++ e.told.edge ∷ []) h.each
        ∙ ap (λ x. take i edges ++ x ∷ []) (e.of ∙ is) ∙ sym (take_more edges i d within);
    words =
        ap (λ text. text ++ words) h.words ∙ ap (λ text. circle_words cell recipes h.told ++ text) e.words
        ∙ flat_map_more (edge_words cell recipes) (codes "batches can wait in a circle") h.told e.told;
  }
