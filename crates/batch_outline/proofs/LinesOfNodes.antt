-- The lines along the charts are those of the nodes of the expanded tree.
use Rattle.std.proofs.Common.{◌≡◌, ◌<◌, ℕ, ◌+◌, List, [], ◌∷◌, ◌++◌, Option, Some, None, length, codes, decimal, ap, sym, subst, ◌∙◌, refl, arith, append-nil, append_assoc, length-append}
use Rattle.std.{specs.List.flat_map, proofs.lemmas.Fmt.decimal_digit, proofs.lemmas.Grind.flat_map-append}
use Rattle.batch_recipe.specs.{ActsAtNodes.ActList, ActsAtNodes.acts_along, ActsAtNodes.acts_along_each, ActsAtNodes.acts_along_cases, ActsAtNodes.acts_below, ActsAtNodes.acts_from, ActsAtNodes.acts_named, Conditions.Name, Diagram.Diagram, Diagram.label, Diagram.skip, Diagram.seq, Diagram.par, Diagram.sel, Diagram.loop, Diagram.Diagrams, Diagram.none, Diagram.more, Diagram.Cases, Diagram.otherwise, Diagram.when, Diagram.diagram_of, Expanding.act_named, Expanding.act_tree_with, Expanding.expanded, Expanding.expanded_each, Expanding.expanded_cases, Expanding.named_tree_with, Expanding.needs_with, Expanding.task_of, Expanding.unit_below, Expanding.unit_with, Needs.resources_needed, Nodes.Node, Nodes.node, Nodes.nodes, Nodes.nodes_within, Nodes.nodes_of_each, Nodes.nodes_of_choices, Nodes.child, Procedure.level_below, Procedure.sites, Procedure.table_at, Procedure.tables_from, Texts.place_text, Tree.Place, Tree.Step, Tree.Tree, declared.act.Act.Act, declared.act.Work.Work, declared.act.Work.TheVariants.Follows, declared.act.Work.TheVariants.Runs, declared.acts.Acts.Acts, declared.acts.LabelTable.LabelTable, declared.acts.LabelTable.TheVariants.UnitProcedures, declared.acts.LabelTable.TheVariants.Operations, declared.acts.LabelTable.TheVariants.Phases, declared.recipe.Recipe.Recipe, declared.role.Role.Role as RecipeRole}
use Rattle.batch_recipe.specs.Tree as tree
use Rattle.batch_outline.{specs.Along.Labels, specs.Along.Seat, specs.Along.act_lines, specs.Along.along, specs.Along.along_each, specs.Along.along_cases, specs.Along.asked_text, specs.Along.below_act, specs.Along.labels_from, specs.Along.line, specs.Along.named_lines, specs.Along.plain_line, specs.Along.seat_below, specs.Showing.Branch, specs.Showing.no_branch, specs.Showing.chosen_if, specs.Showing.chosen_else, specs.Showing.Row, specs.Showing.act_text, specs.Showing.branch_text, specs.Showing.branches, specs.Showing.branches_within, specs.Showing.branches_of_each, specs.Showing.branches_of_choices, specs.Showing.head_text, specs.Showing.itself, specs.Showing.kind_text, specs.Showing.kind_below, specs.Showing.listed, specs.Showing.recipe_text, specs.Showing.row_text, specs.Showing.rows, specs.Showing.rows_of, specs.Showing.spaced, specs.Showing.turns_text, proofs.LineSeats.above_node, proofs.LineSeats.asked_is, proofs.LineSeats.child_long, proofs.LineSeats.held_listed, proofs.LineSeats.kind_far, proofs.LineSeats.seat_at, proofs.LineSeats.seat_of_child}

rows_joined : (ns ms : List Node) (xs ys : ActList) (bs cs : List Branch) → length xs ≡ length ns → length bs ≡ length ns
    → rows (ns ++ ms) (xs ++ ys) (bs ++ cs) ≡ rows ns xs bs ++ rows ms ys cs
rows_joined [] ms [] ys [] cs h g = refl
rows_joined [] ms [] ys (b ∷ bs) cs h g = absurd (omega (arith, g))
rows_joined [] ms (x ∷ xs) ys bs cs h g = absurd (omega (arith, h))
rows_joined (n ∷ ns) ms [] ys bs cs h g = absurd (omega (arith, h))
rows_joined (n ∷ ns) ms (x ∷ xs) ys [] cs h g = absurd (omega (arith, g))
rows_joined (n ∷ ns) ms (x ∷ xs) ys (b ∷ bs) cs h g =
    ap {A = List Row} (λ rs. record { at = n; own = x; branch = b } ∷ rs) (rows_joined ns ms xs ys bs cs (omega (arith, h)) (omega (arith, g)))

module _ (roles : List RecipeRole) (acts : Acts) where
  -- as many acts and branches as nodes, and the lines of the rows are this text
  abbrev Reads : List Node → ActList → List Branch → List ℕ → Type 0
  Reads ns xs bs text = (length xs ≡ length ns) × (length bs ≡ length ns) × (flat_map (row_text roles) (rows ns xs bs) ≡ text)

  both : (ns ms : List Node) (xs ys : ActList) (bs cs : List Branch) (t u : List ℕ) → Reads ns xs bs t → Reads ms ys cs u → Reads (ns ++ ms) (xs ++ ys) (bs ++ cs) (t ++ u)
  both ns ms xs ys bs cs t u h g = (
    omega (arith, length-append ns ms, length-append xs ys, h.0, g.0),
    omega (arith, length-append ns ms, length-append bs cs, h.1, g.1),
    ap (flat_map (row_text roles)) (rows_joined ns ms xs ys bs cs h.0 h.1) ∙ (flat_map-append (row_text roles) (rows ns xs bs) (rows ms ys cs)
        ∙ (ap (λ v. v ++ flat_map (row_text roles) (rows ms ys cs)) h.2 ∙ ap (λ v. t ++ v) g.2)),
  )

  row_is : (p : Place) (above : List Name) (t : Tree) (x : Option Act) (b : Branch)
      → row_text roles (record { at = node p above t; own = x; branch = b }) ≡ line (seat_at p above b) (head_text roles (node p above t) x) (turns_text t)
  row_is p above t x b =
      ap (λ h. place_text p ++ (codes " " ++ (head_text roles (node p above t) x ++ (h ++ (turns_text t ++ (branch_text b ++ codes "\n"))))))
      (ap (listed (codes "holds")) (above_node p above t) ∙ held_listed above)

  -- a node above others
  top : (p : Place) (above : List Name) (t : Tree) (x : Option Act) (b : Branch) (ns : List Node) (xs : ActList) (bs : List Branch) (text : List ℕ) → Reads ns xs bs text
      → Reads (node p above t ∷ ns) (x ∷ xs) (b ∷ bs) (line (seat_at p above b) (head_text roles (node p above t) x) (turns_text t) ++ text)
  top p above t x b ns xs bs text h = (
    omega (arith, h.0),
    omega (arith, h.1),
    ap (λ v. v ++ flat_map (row_text roles) (rows ns xs bs)) (row_is p above t x b) ∙ ap (λ v. line (seat_at p above b) (head_text roles (node p above t) x) (turns_text t) ++ v) h.2,
  )

  alone : (p : Place) (above : List Name) (b : Branch) → Reads (nodes p above tree.skip) (None ∷ []) (branches b tree.skip) (plain_line (seat_at p above b) (codes "skip"))
  alone p above b = (refl, refl, ap (λ v. v ++ []) (row_is p above tree.skip None b) ∙ append-nil _)

  abbrev seat_below_of : Place → List Name → ℕ → Branch → Seat
  seat_below_of p above i b = seat_below (place_text p) (flat_map spaced above) i (branch_text b)

  abbrev AreLabels : (Name → Place → Tree) → Labels → (Name → ActList) → Type 0
  AreLabels trees named list = (name : Name) (p : Place) (above : List Name) (b : Branch) → 1 < length p
      → Reads (nodes p above (trees name p)) (list name) (branches b (trees name p)) (named name (seat_at p above b))

  module _ (trees : Name → Place → Tree) (named : Labels) (list : Name → ActList) (labels : AreLabels trees named list) where
    -- the seat of a child, in the words of the walk
    moved : (p : Place) (above : List Name) (i : ℕ) (b : Branch) (d : Diagram) (ns : List Node) (xs : ActList) (bs : List Branch) → 1 < length p
        → Reads ns xs bs (along named (seat_at (child p i) above b) d) → Reads ns xs bs (along named (seat_below_of p above i b) d)
    moved p above i b d ns xs bs long =
        subst (λ (s : Seat). Reads ns xs bs (along named s d)) (seat_of_child p i above b (omega (arith, long)))

    mutual
      chart_reads : (p : Place) (above : List Name) (b : Branch) (d : Diagram) → 1 < length p
          → Reads (nodes p above (expanded trees p d)) (acts_along list d) (branches b (expanded trees p d)) (along named (seat_at p above b) d)
      chart_reads p above b (label name) long = labels name p above b long
      chart_reads p above b skip long = alone p above b
      chart_reads p above b (seq ds) long =
          top p above (tree.seq (expanded_each trees p 0 ds)) None b (nodes_of_each p above 0 (expanded_each trees p 0 ds)) (acts_along_each list ds) (branches_of_each (expanded_each trees p 0 ds))
          (along_each named (place_text p) (flat_map spaced above) 0 ds) (each_read p above 0 ds long)
      chart_reads p above b (par ds) long =
          top p above (tree.par (expanded_each trees p 0 ds)) None b (nodes_of_each p above 0 (expanded_each trees p 0 ds)) (acts_along_each list ds) (branches_of_each (expanded_each trees p 0 ds))
          (along_each named (place_text p) (flat_map spaced above) 0 ds) (each_read p above 0 ds long)
      chart_reads p above b (sel cs) long =
          top p above (tree.sel (expanded_cases trees p 0 cs)) None b (nodes_of_choices p above 0 (expanded_cases trees p 0 cs)) (acts_along_cases list cs) (branches_of_choices (expanded_cases trees p 0 cs))
          (along_cases named (place_text p) (flat_map spaced above) 0 cs) (cases_read p above 0 cs long)
      chart_reads p above b (loop turns until d) long =
          top p above (tree.loop turns until (expanded trees (child p 0) d)) None b (nodes (child p 0) above (expanded trees (child p 0) d)) (acts_along list d) (branches no_branch (expanded trees (child p 0) d))
          (along named (seat_below_of p above 0 no_branch) d) (moved p above 0 no_branch d _ _ _ long (chart_reads (child p 0) above no_branch d (child_long p 0 (omega (arith, long)))))

      each_read : (p : Place) (above : List Name) (i : ℕ) (ds : Diagrams) → 1 < length p
          → Reads (nodes_of_each p above i (expanded_each trees p i ds)) (acts_along_each list ds) (branches_of_each (expanded_each trees p i ds)) (along_each named (place_text p) (flat_map spaced above) i ds)
      each_read p above i none long = (refl, refl, refl)
      each_read p above i (more d ds) long =
          both (nodes (child p i) above (expanded trees (child p i) d)) (nodes_of_each p above (i + 1) (expanded_each trees p (i + 1) ds)) (acts_along list d) (acts_along_each list ds)
          (branches no_branch (expanded trees (child p i) d)) (branches_of_each (expanded_each trees p (i + 1) ds)) (along named (seat_below_of p above i no_branch) d) (along_each named (place_text p) (flat_map spaced above) (i + 1) ds)
          (moved p above i no_branch d _ _ _ long (chart_reads (child p i) above no_branch d (child_long p i (omega (arith, long))))) (each_read p above (i + 1) ds long)

      cases_read : (p : Place) (above : List Name) (i : ℕ) (cs : Cases) → 1 < length p
          → Reads (nodes_of_choices p above i (expanded_cases trees p i cs)) (acts_along_cases list cs) (branches_of_choices (expanded_cases trees p i cs)) (along_cases named (place_text p) (flat_map spaced above) i cs)
      cases_read p above i (otherwise d) long = moved p above i chosen_else d _ _ _ long (chart_reads (child p i) above chosen_else d (child_long p i (omega (arith, long))))
      cases_read p above i (when c d cs) long =
          both (nodes (child p i) above (expanded trees (child p i) d)) (nodes_of_choices p above (i + 1) (expanded_cases trees p (i + 1) cs)) (acts_along list d) (acts_along_cases list cs)
          (branches (chosen_if c) (expanded trees (child p i) d)) (branches_of_choices (expanded_cases trees p (i + 1) cs)) (along named (seat_below_of p above i (chosen_if c)) d) (along_cases named (place_text p) (flat_map spaced above) (i + 1) cs)
          (moved p above i (chosen_if c) d _ _ _ long (chart_reads (child p i) above (chosen_if c) d (child_long p i (omega (arith, long))))) (cases_read p above (i + 1) cs long)

  -- an act, if the lines of the labels of its chart are right
  module _ (trees : Name → Name → Place → Tree) (named : Labels) (list : Name → ActList) (labels : (unit : Name) → AreLabels (trees unit) named list)
      (unit : Name) (a : Act) (p : Place) (above : List Name) (some : 0 < length p) where
    abbrev own : Name
    own = unit_below unit (unit_with itself a.unit)

    abbrev whole : Tree
    whole = act_tree_with (sites itself acts) trees unit a p

    abbrev asked : List Name
    asked = above ++ resources_needed (needs_with (sites itself acts) a)

    -- the nodes below it, by its work
    below_reads : (work : Work) → Reads (nodes_within p asked (task_of (trees own) own a.name p work)) (acts_below list work) (branches_within (task_of (trees own) own a.name p work))
        (below_act named (place_text p) (flat_map spaced above ++ asked_text acts a) work)
    below_reads (Runs phase values reports) = (refl, refl, refl)
    below_reads (Follows c) =
        let held : flat_map spaced asked ≡ flat_map spaced above ++ asked_text acts a =
        flat_map-append spaced above (resources_needed (needs_with (sites itself acts) a)) ∙ ap (λ t. flat_map spaced above ++ t) (asked_is acts a) in
        subst (λ (s : Seat). Reads (nodes (child p 0) asked (expanded (trees own) (child p 0) (diagram_of c))) (acts_along list (diagram_of c)) (branches no_branch (expanded (trees own) (child p 0) (diagram_of c))) (along named s (diagram_of c)))
        (seat_of_child p 0 asked no_branch some ∙ ap {A = List ℕ} (λ h. record { place = place_text p ++ (codes "." ++ decimal 0); held = h; branch = [] }) held)
        (chart_reads (trees own) named list (labels own) (child p 0) asked no_branch (diagram_of c) (child_long p 0 some))

    act_reads : (b : Branch) (kind : List ℕ) → kind_text p a ≡ kind
        → Reads (nodes p above whole) (acts_from list a) (branches b whole) (act_lines roles acts named (seat_at p above b) kind a)
    act_reads b kind is =
        subst (λ (k : List ℕ). Reads (nodes p above whole) (acts_from list a) (branches b whole) (plain_line (seat_at p above b) (act_text roles k a) ++ below_act named (place_text p) (flat_map spaced above ++ asked_text acts a) a.work)) is
        (top p above whole (Some a) b (nodes_within p asked (task_of (trees own) own a.name p a.work)) (acts_below list a.work) (branches_within (task_of (trees own) own a.name p a.work))
        (below_act named (place_text p) (flat_map spaced above ++ asked_text acts a) a.work) (below_reads a.work))

  -- a label stands for the act that it names
  stands_in : (table : List Act) (tables : List (List Act)) (name : Name) (a : Act) (s : Seat) → act_named table name ≡ Some a
      → act_lines roles acts (named_lines roles acts tables) s (kind_below a.unit a.work) a ≡ named_lines roles acts (table ∷ tables) name s
  stands_in table tables name a s found =
      sym (ap (λ (o : Option Act). elim o [ None ↦ plain_line s (codes "skip") | Some a ↦ act_lines roles acts (named_lines roles acts tables) s (kind_below a.unit a.work) a ]) found)

  named_reads : (tables : List (List Act)) (unit : Name) → AreLabels (named_tree_with (sites itself acts) tables unit) (named_lines roles acts tables) (acts_named tables)
  named_reads [] unit name p above b long = alone p above b
  named_reads (table ∷ tables) unit name p above b long = go (λ own. named_reads tables own) (act_named table name)
    where
      go : ((own : Name) → AreLabels (named_tree_with (sites itself acts) tables own) (named_lines roles acts tables) (acts_named tables)) → (found : Option Act)
          → Reads (nodes p above (elim found [ None ↦ tree.skip | Some a ↦ act_tree_with (sites itself acts) (named_tree_with (sites itself acts) tables) unit a p ]))
          (elim found [ None ↦ None ∷ [] | Some a ↦ acts_from (acts_named tables) a ])
          (branches b (elim found [ None ↦ tree.skip | Some a ↦ act_tree_with (sites itself acts) (named_tree_with (sites itself acts) tables) unit a p ]))
          (elim found [ None ↦ plain_line (seat_at p above b) (codes "skip") | Some a ↦ act_lines roles acts (named_lines roles acts tables) (seat_at p above b) (kind_below a.unit a.work) a ])
      go below None = alone p above b
      go below (Some a) =
          act_reads (named_tree_with (sites itself acts) tables) (named_lines roles acts tables) (acts_named tables) below unit a p above (omega (arith, long)) b (kind_below a.unit a.work) (kind_far p a long)

-- a label of a table's charts stands for its act
pub label_stands : (r : Recipe) (table : LabelTable) (name : Name) (a : Act) (s : Seat) → act_named (table_at r.acts table) name ≡ Some a
    → act_lines r.roles.items r.acts (labels_from r (level_below table)) s (kind_below a.unit a.work) a ≡ labels_from r (Some table) name s
label_stands r UnitProcedures name a s found = stands_in r.roles.items r.acts r.acts.unit_procedures.items (tables_from r.acts (Some Operations)) name a s found
label_stands r Operations name a s found = stands_in r.roles.items r.acts r.acts.operations.items (tables_from r.acts (Some Phases)) name a s found
label_stands r Phases name a s found = stands_in r.roles.items r.acts r.acts.phases.items [] name a s found

-- the lines of the procedure are those of the recipe's rows
pub recipe_walked : (r : Recipe) → flat_map (row_text r.roles.items) (rows_of r)
    ≡ act_lines r.roles.items r.acts (labels_from r (Some UnitProcedures)) (seat_at (0 ∷ []) [] no_branch) (codes "procedure") r.acts.procedure
recipe_walked r =
    let tables = tables_from r.acts (Some UnitProcedures) in
    (act_reads r.roles.items r.acts (named_tree_with (sites itself r.acts) tables) (named_lines r.roles.items r.acts tables) (acts_named tables) (named_reads r.roles.items r.acts tables) [] r.acts.procedure (0 ∷ []) [] (omega arith) no_branch
    (codes "procedure") refl).2

-- the recipe's name, and below it the lines of its procedure
pub recipe_told : (r : Recipe) → codes "recipe " ++ (r.acts.procedure.name ++ codes "\n")
    ++ act_lines r.roles.items r.acts (labels_from r (Some UnitProcedures)) (record { place = codes "0"; held = []; branch = [] }) (codes "procedure") r.acts.procedure
    ≡ recipe_text r
recipe_told r =
    let name = r.acts.procedure.name in
    let lines : Seat → List ℕ = λ s. act_lines r.roles.items r.acts (labels_from r (Some UnitProcedures)) s (codes "procedure") r.acts.procedure in
    let root : Seat = record { place = codes "0"; held = []; branch = [] } in
    let same : lines root ≡ flat_map (row_text r.roles.items) (rows_of r) =
    ap {A = List ℕ} (λ p. lines (record { place = p; held = []; branch = [] })) (sym (decimal_digit 0 (omega arith))) ∙ sym (recipe_walked r) in
    append_assoc (codes "recipe ") (name ++ codes "\n") (lines root)
    ∙ (ap (λ t. codes "recipe " ++ t) (append_assoc name (codes "\n") (lines root)) ∙ ap (λ t. codes "recipe " ++ (name ++ (codes "\n" ++ t))) same)
