-- worked rows: the cells and the recipes of the worked rows.
use Rattle.std.specs.Prelude.{ℕ, map, List, [], ◌∷◌, true, false, ◌||◌, nat_le, codes}
use Rattle.batch_recipe.specs.Conditions.{Name, ValueList, same_name}
use Rattle.batch_recipe.specs.declared.condition.Condition.{Condition}
use Rattle.batch_recipe.specs.declared.condition.Op.TheVariants.{Equal, AtLeast, Greater}
use Rattle.batch_recipe.specs.declared.condition.Term.TheVariants.{Number}
use Rattle.batch_recipe.specs.Diagram.{Diagram, label, skip, seq, par, sel, loop, otherwise, when, diagrams_of}
use Rattle.batch_recipe.specs.Expanding.{expanded}
use Rattle.batch_recipe.specs.Formula.{is_size}
use Rattle.batch_recipe.specs.Nodes.{child}
use Rattle.batch_recipe.specs.Scale as scale
use Rattle.batch_recipe.specs.Tree as node
use Rattle.batch_recipe.specs.Tree.{Place, Tree, act, runs, follows}
use Rattle.batch_recipe.specs.Needs.{one_unit}
use Rattle.batch_recipe.specs.declared.need.Need.{Need}
use Rattle.batch_model.specs.Plant.{Formula, size_out_of_range, value_out_of_range, scaled, Recipe, Master, plain, Setup}
use Rattle.batch_examples.specs.RowDemo as demo

-- Names

abbrev pub r1 : Name
r1 = codes "R1"

abbrev pub r2 : Name
r2 = codes "R2"

abbrev pub hdr : Name
hdr = codes "HDR"

abbrev pub steam : Name
steam = codes "STEAM"

abbrev pub add : Name
add = codes "ADD"

abbrev pub heat : Name
heat = codes "HEAT"

abbrev pub drain : Name
drain = codes "DRAIN"

abbrev pub name_a : Name
name_a = codes "A"

abbrev pub make : Name
make = codes "MAKE"

abbrev pub charge : Name
charge = codes "CHARGE"

abbrev pub cook : Name
cook = codes "COOK"

-- an output
abbrev pub x_name : Name
x_name = codes "X"

-- an input
abbrev pub quantity : Name
quantity = codes "QTY"

-- Tables of acts

-- an act of a document: its name, and its node where it stands at a place
abbrev pub Entry : Type 0
Entry = Name × (Place → Tree)

-- the tree that a label stands for, at a place
abbrev pub entry_named : List Entry → Name → Place → Tree
entry_named [] name p = node.skip
entry_named (e ∷ es) name p = elim (same_name e.0 name) [ true ↦ e.1 p | false ↦ entry_named es name p ]

-- a phase step that runs a phase on a unit
abbrev pub phase_step : Name → List Need → Name → Name → List Name → Entry
phase_step name needs unit phase handed =
    (name, λ p. act (record { place = p; needs = needs; reserves = [] }) (runs (record { unit = unit; name = phase; handed = handed; reports = [] })))

-- the same without needs and values, but the phase reports outputs
abbrev pub reporting_step : Name → Name → List Name → Entry
reporting_step name unit reports =
    (name, λ p. act (record { place = p; needs = []; reserves = [] }) (runs (record { unit = unit; name = name; handed = []; reports = reports })))

-- an act that follows a chart, whose labels stand in a table
abbrev pub chart_act : Name → List Need → List Entry → Diagram → Entry
chart_act name needs table d =
    (name, λ p. act (record { place = p; needs = needs; reserves = [] }) (follows name (expanded (entry_named table) (child p 0) d)))

abbrev pub procedure_of : Entry → Tree
procedure_of e = e.1 (0 ∷ [])

-- a recipe without inputs and parameters
abbrev pub recipe_with : Name → List Name → ValueList → Entry → Recipe
recipe_with name outputs vs procedure =
    record { name = name; formula = λ size. elim (is_size size) [ true ↦ scaled vs | false ↦ size_out_of_range ]; outputs = outputs; procedure = procedure_of procedure }

abbrev pub add_step : Name → Entry
add_step unit = phase_step add [] unit add []

abbrev pub heat_step : Name → Entry
heat_step unit = phase_step heat [] unit heat []

abbrev pub drain_step : Name → Entry
drain_step unit = phase_step drain [] unit drain []

-- a procedure of one unit procedure on a unit, and of one operation that follows a chart
abbrev pub one_operation : Name → Name → Name → Name → List Entry → Diagram → Entry
one_operation unit name unit_procedure operation steps d =
    chart_act name []
    (chart_act unit_procedure (one_unit unit ∷ []) (chart_act operation [] steps d ∷ []) (label operation) ∷ [])
    (label unit_procedure)

-- the same with the unit procedure MAKE on R1
abbrev pub making : Name → Name → List Entry → Diagram → Entry
making name operation steps d = one_operation r1 name make operation steps d

-- the same with the unit procedure U and the operation O
abbrev pub plain_on : Name → Name → List Entry → Diagram → Entry
plain_on unit name steps d = one_operation unit name (codes "U") (codes "O") steps d

-- Recipes

-- A as a document has it, before it is expanded
abbrev pub procedure_a : Entry
procedure_a = making name_a charge (add_step r1 ∷ []) (label add)

-- A with an input QTY of 333, at least 0 and at most 500 for a batch, that is handed to ADD
abbrev pub formula_f : ℕ → Formula
formula_f size =
    elim (is_size size) [
      | false ↦ size_out_of_range
      | true ↦
          let v = scale.scaled 333 size 1000 in
          elim (nat_le v 500) [ true ↦ scaled ((quantity, v) ∷ []) | false ↦ value_out_of_range quantity ]
    ]

abbrev pub recipe_f : Recipe
recipe_f =
    record {
      name = codes "F";
      formula = formula_f;
      outputs = [];
      procedure = procedure_of (making (codes "F") charge (phase_step add [] r1 add (quantity ∷ []) ∷ []) (label add));
    }

-- one phase after the other
abbrev pub recipe_s : Recipe
recipe_s =
    recipe_with (codes "S") [] []
    (making (codes "S") cook (add_step r1 ∷ heat_step r1 ∷ []) (seq (diagrams_of (label add ∷ label heat ∷ []))))

-- two phases at once
abbrev pub recipe_w : Recipe
recipe_w =
    recipe_with (codes "W") [] []
    (making (codes "W") cook (add_step r1 ∷ heat_step r1 ∷ []) (par (diagrams_of (label add ∷ label heat ∷ []))))

-- three phases at once, of which each needs STEAM
abbrev pub recipe_t : Recipe
recipe_t =
    recipe_with (codes "T") [] []
    (plain_on r1 (codes "T")
    (phase_step (codes "ADDS") (one_unit steam ∷ []) r1 add []
    ∷ phase_step (codes "HEATS") (one_unit steam ∷ []) r1 heat []
    ∷ phase_step (codes "DRAINS") (one_unit steam ∷ []) r1 drain []
    ∷ [])
    (par (diagrams_of (label (codes "ADDS") ∷ label (codes "HEATS") ∷ label (codes "DRAINS") ∷ []))))

-- the same, but the second needs so many units of STEAM
abbrev pub recipe_y : ℕ → Recipe
recipe_y units =
    recipe_with (codes "Y") [] []
    (plain_on r1 (codes "Y")
    (phase_step (codes "ADDS") (one_unit steam ∷ []) r1 add []
    ∷ phase_step (codes "HEATS") (record { resource = steam; units = units } ∷ []) r1 heat []
    ∷ phase_step (codes "DRAINS") (one_unit steam ∷ []) r1 drain []
    ∷ [])
    (par (diagrams_of (label (codes "ADDS") ∷ label (codes "HEATS") ∷ label (codes "DRAINS") ∷ []))))

-- steps that need HDR to add and STEAM to heat
abbrev pub crossed_steps : Name → List Entry
crossed_steps unit =
    phase_step (codes "ADDH") (one_unit hdr ∷ []) unit add [] ∷ phase_step (codes "HEATS") (one_unit steam ∷ []) unit heat [] ∷ drain_step unit ∷ []

abbrev pub recipe_p : Recipe
recipe_p =
    recipe_with (codes "P") [] []
    (plain_on r1 (codes "P") (crossed_steps r1)
    (par (diagrams_of (label (codes "ADDH") ∷ seq (diagrams_of (label drain ∷ label (codes "HEATS") ∷ [])) ∷ []))))

abbrev pub recipe_q : Recipe
recipe_q =
    recipe_with (codes "Q") [] []
    (plain_on r2 (codes "Q") (crossed_steps r2)
    (par (diagrams_of (label (codes "HEATS") ∷ seq (diagrams_of (label drain ∷ label (codes "ADDH") ∷ [])) ∷ []))))

-- the output X is above 0
abbrev pub x_above_0 : Condition
x_above_0 = record { name = x_name; op = Greater; term = Number 0 }

abbrev pub x_is_1 : Condition
x_is_1 = record { name = x_name; op = Equal; term = Number 1 }

abbrev pub x_at_least_2 : Condition
x_at_least_2 = record { name = x_name; op = AtLeast; term = Number 2 }

-- a recipe with the output X
abbrev pub recipe_with_x : Name → Entry → Recipe
recipe_with_x name procedure = recipe_with name (x_name ∷ []) ((x_name, 0) ∷ []) procedure

-- a thousand turns at most, until X is above 0
abbrev pub recipe_l : Recipe
recipe_l = recipe_with_x (codes "L") (making (codes "L") charge (add_step r1 ∷ []) (loop 1000 x_above_0 (label add)))

-- the same, but the phase reports X
abbrev pub recipe_rp : Recipe
recipe_rp = recipe_with_x (codes "RP") (making (codes "RP") charge (reporting_step add r1 (x_name ∷ []) ∷ []) (loop 1000 x_above_0 (label add)))

abbrev pub y_name : Name
y_name = codes "Y"

-- one phase, which reports Y and X
abbrev pub recipe_yx : Recipe
recipe_yx =
    recipe_with (codes "YX") (x_name ∷ y_name ∷ []) ((x_name, 0) ∷ (y_name, 0) ∷ [])
    (making (codes "YX") charge (reporting_step add r1 (y_name ∷ x_name ∷ []) ∷ []) (label add))

-- X chooses the unit procedure
abbrev pub recipe_j : Recipe
recipe_j =
    recipe_with_x (codes "J")
    (chart_act (codes "J") []
    (chart_act (codes "GOOD") (one_unit r1 ∷ one_unit hdr ∷ []) (chart_act charge [] (add_step r1 ∷ []) (label add) ∷ []) (label charge)
    ∷ chart_act (codes "BAD") (one_unit r2 ∷ one_unit hdr ∷ one_unit r1 ∷ []) (chart_act charge [] (add_step r2 ∷ []) (label add) ∷ []) (label charge)
    ∷ [])
    (sel (when x_is_1 (label (codes "GOOD")) (otherwise (label (codes "BAD"))))))

-- X chooses the chart that follows the first phase
abbrev pub recipe_k : Recipe
recipe_k =
    recipe_with_x (codes "K")
    (making (codes "K") charge (add_step r1 ∷ heat_step r1 ∷ [])
    (seq (diagrams_of (label add ∷ sel (when x_at_least_2 (label heat) (otherwise skip)) ∷ []))))

-- one phase on R1, and R2 is held as well
abbrev pub recipe_both : Recipe
recipe_both =
    recipe_with (codes "BOTH") [] []
    (chart_act (codes "BOTH") []
    (chart_act make (one_unit r1 ∷ one_unit r2 ∷ []) (chart_act charge [] (add_step r1 ∷ []) (label add) ∷ []) (label charge) ∷ [])
    (label make))

-- two unit procedures at once, of which the first has nothing to do
abbrev pub recipe_pair : Recipe
recipe_pair =
    recipe_with (codes "PAIR") [] []
    (chart_act (codes "PAIR") []
    (chart_act (codes "REST") (one_unit r1 ∷ []) [] skip
    ∷ chart_act make (one_unit r2 ∷ []) (chart_act charge [] (add_step r2 ∷ []) (label add) ∷ []) (label charge)
    ∷ [])
    (par (diagrams_of (label (codes "REST") ∷ label make ∷ []))))

-- two unit procedures at once, of one phase each
abbrev pub recipe_twin : Recipe
recipe_twin =
    recipe_with (codes "TWIN") [] []
    (chart_act (codes "TWIN") []
    (chart_act (codes "LEFT") (one_unit r1 ∷ []) (chart_act charge [] (add_step r1 ∷ []) (label add) ∷ []) (label charge)
    ∷ chart_act (codes "RIGHT") (one_unit r2 ∷ []) (chart_act charge [] (add_step r2 ∷ []) (label add) ∷ []) (label charge)
    ∷ [])
    (par (diagrams_of (label (codes "LEFT") ∷ label (codes "RIGHT") ∷ []))))

-- two phases at once on R2, of which the first needs HDR and the second STEAM
abbrev pub recipe_sides : Recipe
recipe_sides =
    recipe_with (codes "SIDES") [] []
    (plain_on r2 (codes "SIDES") (crossed_steps r2) (par (diagrams_of (label (codes "ADDH") ∷ label (codes "HEATS") ∷ []))))

-- Roles

abbrev pub rx : Name
rx = codes "rx"

abbrev pub ry : Name
ry = codes "ry"

-- A on a unit that takes the role rx, which these may take, beside the needs of the procedure
abbrev pub in_role : Name → List Name → List Need → Master
in_role name candidates needs =
    record {
      name = name;
      roles = record { name = rx; candidates = candidates } ∷ [];
      names_role = same_name rx;
      control = λ bound.
          recipe_with name [] []
          (chart_act name needs
          (chart_act make (one_unit (bound rx) ∷ []) (chart_act charge [] (add_step (bound rx) ∷ []) (label add) ∷ []) (label charge) ∷ [])
          (label make));
    }

-- either unit may take the role
abbrev pub master_b : Master
master_b = in_role (codes "B") (r1 ∷ r2 ∷ []) []

-- the same, but the procedure needs R2
abbrev pub master_c : Master
master_c = in_role (codes "C") (r1 ∷ r2 ∷ []) (one_unit r2 ∷ [])

-- one unit alone may take the role
abbrev pub master_d : Master
master_d = in_role (codes "D") (r1 ∷ []) []

-- A on R1, which takes one role, and then on R2, which takes another
abbrev pub master_e : Master
master_e =
    record {
      name = codes "E";
      roles = record { name = rx; candidates = r1 ∷ r2 ∷ [] } ∷ record { name = ry; candidates = r1 ∷ r2 ∷ [] } ∷ [];
      names_role = λ role. same_name rx role || same_name ry role;
      control = λ bound.
          recipe_with (codes "E") [] []
          (chart_act (codes "E") []
          (chart_act make (one_unit (bound rx) ∷ []) (chart_act charge [] (add_step (bound rx) ∷ []) (label add) ∷ []) (label charge)
          ∷ chart_act cook (one_unit (bound ry) ∷ []) (chart_act charge [] (add_step (bound ry) ∷ []) (label add) ∷ []) (label charge)
          ∷ [])
          (seq (diagrams_of (label make ∷ label cook ∷ []))));
    }

-- Cells

-- the demo cell with recipes that have roles
abbrev pub cell_with_roles : Setup
cell_with_roles = record demo.demo { recipes = master_b ∷ master_d ∷ master_e ∷ []; batch_limit = 4096 }

-- the demo cell with recipes whose phases report outputs
abbrev pub cell_with_reports : Setup
cell_with_reports = record demo.demo { recipes = map plain (recipe_rp ∷ recipe_yx ∷ []); batch_limit = 4096 }

-- the demo cell with all these recipes
abbrev pub cell : Setup
cell =
    record demo.demo {
      recipes =
          map plain
          (demo.recipe ∷ recipe_f ∷ recipe_s ∷ recipe_w ∷ recipe_t ∷ recipe_p ∷ recipe_q ∷ recipe_l ∷ recipe_j ∷ recipe_k
          ∷ recipe_both ∷ recipe_pair ∷ recipe_twin ∷ recipe_sides ∷ recipe_y 2 ∷ []);
      batch_limit = 4096;
    }

-- the same, but STEAM has one user as well
abbrev pub narrow_cell : Setup
narrow_cell = record cell { capacity = λ resource. 1 }

-- the same as the first, but two batches may exist at once
abbrev pub small_cell : Setup
small_cell = record cell { batch_limit = 2 }
