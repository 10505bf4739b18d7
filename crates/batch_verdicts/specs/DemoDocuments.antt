-- trusted: the documents that are built into the program.
use Rattle.std.specs.Prelude.{ℕ, List, Option, Some, None, true, false}
use Rattle.std.specs.Str.{bytes_eq}
use Rattle.batch_verdicts.specs.declared.demo.TheConstants.{CELL_PATH, CERTIFICATE_PATH, RECIPE_PATH, CELL, CERTIFICATE, RECIPE}

-- the text at a path
abbrev pub demo_text : List ℕ → Option (List ℕ)
demo_text path =
    elim (bytes_eq path CELL_PATH.now) [
      | true ↦ Some CELL.now
      | false ↦ elim (bytes_eq path CERTIFICATE_PATH.now) [
        | true ↦ Some CERTIFICATE.now
        | false ↦ elim (bytes_eq path RECIPE_PATH.now) [ true ↦ Some RECIPE.now | false ↦ None ]
      ]
    ]
