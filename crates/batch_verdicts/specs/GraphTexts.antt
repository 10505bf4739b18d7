-- trusted: the graph of the orders in which resources are asked for, in the language of Graphviz.
use Rattle.std.specs.Prelude.{ℕ, List, [], ◌++◌, Some, None, codes, decimal, if◌then◌else◌}
use Rattle.std.specs.List.{flat_map}
use Rattle.batch_cell.specs.declared.cell.Cell.{Cell}
use Rattle.batch_cell.specs.declared.module.Module.{Module}
use Rattle.batch_cell.specs.declared.shared.Shared.{Shared}
use Rattle.batch_cell.specs.declared.unit.Unit.{Unit}
use Rattle.batch_recipe.specs.declared.recipe.Recipe.{Recipe}
use Rattle.batch_check.specs.Edges.{has_pair}
use Rattle.batch_check.specs.declared.edge.Edge.{Edge}
use Rattle.batch_verdicts.specs.VerdictTexts.{node_text, resource_name}
use Rattle.batch_verdicts.specs.declared.texts.graphs.TheConstants.{LEGEND}

-- The cell's resources, in the shape of their kind

abbrev pub unit_box_text : Unit → List ℕ
unit_box_text u = codes "  \"" ++ (u.name ++ codes "\" [shape=box];\n")

-- a module that belongs to a unit is no resource
abbrev pub module_text : Module → List ℕ
module_text m = elim m.unit [ None ↦ codes "  \"" ++ (m.name ++ codes "\" [shape=hexagon];\n") | Some u ↦ [] ]

abbrev pub shared_text : Shared → List ℕ
shared_text s = codes "  \"" ++ (s.name ++ (codes "\" [label=\"" ++ (s.name ++ (codes "\\nunits: " ++ (decimal s.capacity ++ codes "\"];\n")))))

abbrev pub resources_text : Cell → List ℕ
resources_text c = flat_map unit_box_text c.units.items ++ (flat_map module_text c.modules.items ++ flat_map shared_text c.shared.items)

-- The edges

-- an edge is red if one of these leads from the same resource to the same
abbrev pub colour_of : List Edge → Edge → List ℕ
colour_of red e = if has_pair red e.earlier e.later then codes ", color=red" else codes ""

-- the names of the acts at the nodes of the recipes
abbrev pub ActNames : Type 0
ActNames = ℕ → ℕ → List ℕ

-- an arrow from the earlier resource to the later, with the recipe, the place and the name of the act that asks in this order
abbrev pub arrow_text : ActNames → Cell → List Recipe → List Edge → Edge → List ℕ
arrow_text acts c rs red e =
    codes "  \"" ++ (resource_name c e.earlier ++ (codes "\" -> \"" ++ (resource_name c e.later ++ (codes "\" [label=\""
    ++ (node_text rs e.recipe e.node ++ (codes "\\n" ++ (acts e.recipe e.node ++ (codes "\"" ++ (colour_of red e ++ codes "];\n")))))))))

abbrev pub arrows_text : ActNames → Cell → List Recipe → List Edge → List Edge → List ℕ
arrows_text acts c rs red edges = flat_map (arrow_text acts c rs red) edges

-- the graph of the edges under the cell's name, with the meaning of its shapes and colours
abbrev pub graph_text : ActNames → Cell → List Recipe → List Edge → List Edge → List ℕ
graph_text acts c rs edges red =
    codes "digraph \"" ++ (c.name ++ (codes "\" {\n" ++ (LEGEND.now ++ (resources_text c ++ (arrows_text acts c rs red edges ++ codes "}\n")))))
