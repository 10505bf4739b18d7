-- trusted: the text of a picture, in SVG.
use Rattle.std.specs.Prelude.{ℕ, ◌%◌, Bool, true, false, List, ◌++◌, codes, decimal, nat_eq, string_bytes, if◌then◌else◌}
use Rattle.std.specs.List.{flat_map}
use Rattle.batch_record.specs.declared.shape.Anchor.{Anchor}
use Rattle.batch_record.specs.declared.shape.Anchor.TheVariants.{Start, Middle, End}
use Rattle.batch_record.specs.declared.shape.Grid.{Grid}
use Rattle.batch_record.specs.declared.shape.Label.{Label}
use Rattle.batch_record.specs.declared.shape.Block.{Block}
use Rattle.batch_record.specs.declared.shape.PictureShape.{PictureShape}
use Rattle.batch_record.specs.declared.shape.PictureShape.TheVariants as shape
use Rattle.batch_record.specs.declared.picture.Picture.{Picture}

-- a line between two points
abbrev pub grid_text : Grid → List ℕ
grid_text grid =
    codes "<path d=\"M" ++ (decimal grid.left ++ (codes " " ++ (decimal grid.top ++ (codes "L" ++ (decimal grid.right ++ (codes " " ++ (decimal grid.bottom ++ codes "\" stroke=\"#dddddd\"/>\n")))))))

abbrev pub anchor_word : Anchor → List ℕ
anchor_word Start = codes "start"
anchor_word Middle = codes "middle"
anchor_word End = codes "end"

-- a text at a point
abbrev pub label_text : Label → List ℕ
label_text label =
    codes "<text x=\"" ++ (decimal label.left ++ (codes "\" y=\"" ++ (decimal label.base ++ (codes "\" text-anchor=\"" ++ (anchor_word label.anchor ++ (codes "\">" ++ (string_bytes label.text ++ codes "</text>\n")))))))

-- batches whose numbers are eight apart have one colour
abbrev pub colour_text : ℕ → List ℕ
colour_text hue =
    if nat_eq hue 0 then codes "#d9d9a0"
    else (if nat_eq hue 1 then codes "#8ecae6"
    else (if nat_eq hue 2 then codes "#ffd166"
    else (if nat_eq hue 3 then codes "#b7e4c7"
    else (if nat_eq hue 4 then codes "#f4a6a6"
    else (if nat_eq hue 5 then codes "#cdb4db"
    else (if nat_eq hue 6 then codes "#e9a06a"
    else codes "#c8c8c8"))))))

-- the title of a bar of a batch

abbrev pub claim_verb : Bool → List ℕ
claim_verb true = codes "waits for"
claim_verb false = codes "holds"

abbrev pub hatching : Bool → List ℕ
hatching true = codes "url(#waits)"
hatching false = codes "none"

abbrev pub title_text : Block → List ℕ
title_text block =
    codes "<g><title>" ++ (decimal block.batch ++ (codes " " ++ (claim_verb block.waits ++ (codes " " ++ (decimal block.units ++ (codes " of " ++ (block.resource ++ (codes " at " ++ (string_bytes block.place ++ codes "</title>")))))))))

-- its colour
abbrev pub area_text : Block → List ℕ
area_text block =
    codes "<rect x=\"" ++ (decimal block.left ++ (codes "\" y=\"" ++ (decimal block.top ++ (codes "\" width=\"" ++ (decimal block.width ++ (codes "\" height=\"17\" fill=\"" ++ (colour_text (block.batch % 8) ++ codes "\"/>")))))))

-- its frame, with white stripes in it if the batch waits
abbrev pub frame_text : Block → List ℕ
frame_text block =
    codes "<rect x=\"" ++ (decimal block.left ++ (codes "\" y=\"" ++ (decimal block.top ++ (codes "\" width=\"" ++ (decimal block.width ++ (codes "\" height=\"17\" fill=\"" ++ (hatching block.waits ++ codes "\" stroke=\"#555555\"/></g>\n")))))))

abbrev pub bar_text : Block → List ℕ
bar_text block = title_text block ++ (area_text block ++ frame_text block)

abbrev pub shape_text : PictureShape → List ℕ
shape_text (shape.Grid grid) = grid_text grid
shape_text (shape.Label label) = label_text label
shape_text (shape.Block block) = bar_text block

-- a white ground, and the pattern of waiting batches
abbrev pub svg_head : ℕ → ℕ → List ℕ
svg_head width height =
    codes "<svg xmlns=\"http://www.w3.org/2000/svg\" viewBox=\"0 0 " ++ (decimal width ++ (codes " " ++ (decimal height ++ (codes "\" width=\"" ++ (decimal width ++ (codes "\" height=\"" ++ (decimal height ++ codes "\" font-family=\"sans-serif\" font-size=\"12\">\n")))))))

abbrev pub ground_text : ℕ → ℕ → List ℕ
ground_text width height =
    codes "<rect width=\"" ++ (decimal width ++ (codes "\" height=\"" ++ (decimal height ++ codes "\" fill=\"white\"/>\n")))

abbrev pub pattern_text : List ℕ
pattern_text = codes "<pattern id=\"waits\" width=\"6\" height=\"6\" patternUnits=\"userSpaceOnUse\" patternTransform=\"rotate(45)\"><rect width=\"3\" height=\"6\" fill=\"white\"/></pattern>\n"

-- a picture, a later shape over an earlier one
abbrev pub picture_text : Picture → List ℕ
picture_text picture =
    svg_head picture.width picture.height ++ (ground_text picture.width picture.height ++ (pattern_text ++ (flat_map shape_text picture.shapes.items ++ codes "</svg>\n")))
