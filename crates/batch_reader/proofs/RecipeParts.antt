-- The facts of a recipe's acts and names that its tables give by themselves.
use Rattle.std.proofs.Common.{arith, ◌≡◌, ◌≤◌, nat_le, length, ℕ, Bool, true, false, not, ◌&&◌, List, [], ◌∷◌, ◌++◌, map, Some, None, codes, refl, sym, ap, ◌∙◌, subst}
use Rattle.std.{proofs.lemmas.List.Elements.All-nil, proofs.lemmas.List.Elements.All-cons, proofs.lemmas.List.Folds.list_all-append, proofs.lemmas.List.Folds.list_all-map, specs.List.list_all, specs.List.All}
use Rattle.toml.specs.Data.{Members, Items, no_items, item}
use Rattle.batch_reader.{proofs.ChartForms.is_formed, specs.Entries.AllItems, specs.Entries.IsTableOf, specs.Entries.HasTables, specs.Entries.HasLabel, specs.FormedActs.IsFormedWork, specs.FormedActs.AreFormed, specs.RecipeTables.IsQuantityTable, specs.RecipeTables.IsOutputTable, specs.RecipeTables.HasCourse, specs.RecipeTables.IsProcedureTable, specs.RecipeTables.IsUnitProcedureTable, specs.RecipeTables.IsOperationTable, specs.RecipeTables.IsPhaseTable, specs.RecipeDocument.HasActs}
use Rattle.batch_recipe.specs.{Conditions.Name, Diagram.diagram_of, WellFormed.is_among, WellFormed.chart_words, WellFormed.have_no_chart_word, WellFormed.value_names, WellFormed.has_unit, WellFormed.has_chart, WellFormed.are_kinds, WellFormed.follows_no_par, WellFormed.has_free_names, WellFormed.reports_few, WellFormed.reports_with, declared.act.Act.Act, declared.act.TheConstants.MAX_REPORTS, declared.act.UnitChoice.UnitChoice, declared.act.Work.TheVariants.Follows, declared.act.Work.TheVariants.Runs, declared.acts.Acts.Acts, declared.quantity.Quantity.Quantity}

-- a property of each value that a table stands for holds of those of all tables
each_item : {X : Type 0} (R : Members → X → Type 0) (P : X → Type 0) → ((ms : Members) (x : X) → R ms x → P x)
    → (items : Items) (xs : List X) → AllItems (IsTableOf R) items xs → All P xs
each_item R P one no_items [] h = All-nil P
each_item R P one no_items (x ∷ xs) h = absurd h
each_item R P one (item d ds) [] h = absurd h
each_item R P one (item d ds) (x ∷ xs) h = All-cons P x xs (one h.0.members x h.0.stands_for) (each_item R P one ds xs h.1)

each_table : {X : Type 0} (R : Members → X → Type 0) (P : X → Type 0) → ((ms : Members) (x : X) → R ms x → P x)
    → (key : List ℕ) (ms : Members) (xs : List X) → HasTables R key ms xs → All P xs
each_table R P one key ms xs h = each_item R P one h.items xs h.tables

both_true : (a b : Bool) → a ≡ true → b ≡ true → (a && b) ≡ true
both_true a b p q = ap (λ x. x && b) p ∙ q

each_item_true : {X : Type 0} (R : Members → X → Type 0) (p : X → Bool) → ((ms : Members) (x : X) → R ms x → p x ≡ true)
    → (items : Items) (xs : List X) → AllItems (IsTableOf R) items xs → list_all p xs ≡ true
each_item_true R p one no_items [] h = refl
each_item_true R p one no_items (x ∷ xs) h = absurd h
each_item_true R p one (item d ds) [] h = absurd h
each_item_true R p one (item d ds) (x ∷ xs) h =
    both_true (p x) (list_all p xs) (one h.0.members x h.0.stands_for) (each_item_true R p one ds xs h.1)

each_table_true : {X : Type 0} (R : Members → X → Type 0) (p : X → Bool) → ((ms : Members) (x : X) → R ms x → p x ≡ true)
    → (key : List ℕ) (ms : Members) (xs : List X) → HasTables R key ms xs → list_all p xs ≡ true
each_table_true R p one key ms xs h = each_item_true R p one h.items xs h.tables

-- ---- kinds

unit_of_none : (a : Act) → a.unit ≡ None → has_unit a ≡ false
unit_of_none a none = ap (λ u. elim u [ None ↦ false | Some unit ↦ true ]) none

unit_of_some : (a : Act) (choice : UnitChoice) → a.unit ≡ Some choice → has_unit a ≡ true
unit_of_some a choice some = ap (λ u. elim u [ None ↦ false | Some own ↦ true ]) some

chart_of_course : (ms : Members) (a : Act) → HasCourse ms a → has_chart a ≡ true
chart_of_course ms a h = ap (λ w. elim w [ Follows c ↦ true | Runs phase values reports ↦ false ]) h.follows

no_chart_of_phase : (ms : Members) (a : Act) → IsPhaseTable ms a → has_chart a ≡ false
no_chart_of_phase ms a h = ap (λ w. elim w [ Follows c ↦ true | Runs phase values reports ↦ false ]) h.work

pub kinds_of_tables : (ms : Members) (acts : Acts) → HasActs ms acts → are_kinds acts ≡ true
kinds_of_tables ms acts h =
    let top : IsProcedureTable h.procedure.members acts.procedure = h.procedure.stands_for in
    let procedure : (not (has_unit acts.procedure) && has_chart acts.procedure) ≡ true =
    both_true _ _ (ap not (unit_of_none acts.procedure top.no_unit)) (chart_of_course h.procedure.members acts.procedure top.course) in
    let unit_procedures : list_all (λ u. has_unit u && has_chart u) acts.unit_procedures.items ≡ true =
    each_table_true IsUnitProcedureTable (λ u. has_unit u && has_chart u) (λ ns u t.
    both_true _ _ (unit_of_some u t.choice t.runs_on) (chart_of_course ns u t.course)) _ ms _ h.unit_procedures in
    let operations : list_all (λ o. not (has_unit o) && has_chart o) acts.operations.items ≡ true =
    each_table_true IsOperationTable (λ o. not (has_unit o) && has_chart o) (λ ns o t.
    both_true _ _ (ap not (unit_of_none o t.no_unit)) (chart_of_course ns o t.course)) _ ms _ h.operations in
    let phases : list_all (λ s. not (has_unit s) && not (has_chart s)) acts.phases.items ≡ true =
    each_table_true IsPhaseTable (λ s. not (has_unit s) && not (has_chart s)) (λ ns s t.
    both_true _ _ (ap not (unit_of_none s t.no_unit)) (ap not (no_chart_of_phase ns s t))) _ ms _ h.phases in
    both_true _ _ procedure (both_true _ _ unit_procedures (both_true _ _ operations phases))

-- ---- charts and handed values

formed_course : (ms : Members) (a : Act) → HasCourse ms a → IsFormedWork a.work
formed_course ms a h = subst IsFormedWork (sym h.follows) (is_formed h.text.text (diagram_of h.chart) h.text.is_chart)

formed_phase : (ms : Members) (a : Act) → IsPhaseTable ms a → IsFormedWork a.work
formed_phase ms a h = subst IsFormedWork (sym h.work) h.values.few

few : (m n : ℕ) → m ≤ n → nat_le m n ≡ true
few m n h = grind arith

few_reports : (ms : Members) (a : Act) → IsPhaseTable ms a → reports_few a ≡ true
few_reports ms a h = ap (λ w. nat_le (length (reports_with w)) MAX_REPORTS) h.work ∙ few (length h.reported.items) MAX_REPORTS h.reports.few

pub formed_of_tables : (ms : Members) (acts : Acts) → HasActs ms acts → AreFormed acts
formed_of_tables ms acts h = record {
  procedure = formed_course h.procedure.members acts.procedure h.procedure.stands_for.course;
  unit_procedures = each_table IsUnitProcedureTable (λ a. IsFormedWork a.work) (λ ns a t. formed_course ns a t.course) _ ms _ h.unit_procedures;
  no_par = each_table_true IsUnitProcedureTable follows_no_par (λ ns a t. t.no_par) _ ms _ h.unit_procedures;
  operations = each_table IsOperationTable (λ a. IsFormedWork a.work) (λ ns a t. formed_course ns a t.course) _ ms _ h.operations;
  phases = each_table IsPhaseTable (λ a. IsFormedWork a.work) formed_phase _ ms _ h.phases;
  few_reports = each_table_true IsPhaseTable reports_few few_reports _ ms _ h.phases;
  no_reserves = ap (λ names. nat_le (length names) 0) h.procedure.stands_for.no_reserves;
}

-- ---- names that are no words of charts

free_names : {X : Type 0} (R : Members → X → Type 0) (name_of : X → Name) → ((ms : Members) (x : X) → R ms x → HasLabel (codes "name") ms (name_of x))
    → (key : List ℕ) (ms : Members) (xs : List X) → HasTables R key ms xs → have_no_chart_word (map name_of xs) ≡ true
free_names R name_of named key ms xs h =
    let p : Name → Bool = λ name. not (is_among chart_words name) in
    list_all-map p name_of xs ∙ each_table_true R (λ x. p (name_of x)) (λ ns x t. let l = named ns x t in ap not l.label.free) key ms xs h

free_outputs : (ms : Members) (xs : List Name) → HasTables IsOutputTable (codes "output") ms xs → have_no_chart_word xs ≡ true
free_outputs ms xs h =
    each_table_true IsOutputTable (λ name. not (is_among chart_words name)) (λ ns name t. ap not t.name.label.free) _ ms xs h

pub free_names_of_tables : (ms : Members) (inputs parameters : List Quantity) (outputs : List Name) (acts : Acts)
    → HasTables IsQuantityTable (codes "input") ms inputs → HasTables IsQuantityTable (codes "parameter") ms parameters → HasTables IsOutputTable (codes "output") ms outputs
    → HasActs ms acts → has_free_names (value_names inputs parameters outputs) acts ≡ true
free_names_of_tables ms inputs parameters outputs acts hi hp ho h =
    let p : Name → Bool = λ name. not (is_among chart_words name) in
    let is : List Name = map (λ q. q.name) inputs in
    let ps : List Name = map (λ q. q.name) parameters in
    let quantity : (ns : Members) (q : Quantity) → IsQuantityTable ns q → HasLabel (codes "name") ns q.name = λ ns q t. t.name in
    let values : list_all p (is ++ ps ++ outputs) ≡ true =
    list_all-append p (is ++ ps) outputs ∙ both_true _ _
    (list_all-append p is ps ∙ both_true _ _ (free_names IsQuantityTable (λ q. q.name) quantity _ ms inputs hi) (free_names IsQuantityTable (λ q. q.name) quantity _ ms parameters hp))
    (free_outputs ms outputs ho) in
    both_true _ _ values
    (both_true _ _ (free_names IsUnitProcedureTable (λ a. a.name) (λ ns a t. t.name) _ ms acts.unit_procedures.items h.unit_procedures)
    (both_true _ _ (free_names IsOperationTable (λ a. a.name) (λ ns a t. t.name) _ ms acts.operations.items h.operations)
    (free_names IsPhaseTable (λ a. a.name) (λ ns a t. t.name) _ ms acts.phases.items h.phases)))
