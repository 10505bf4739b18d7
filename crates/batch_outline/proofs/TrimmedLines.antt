-- The lines of recipes without the charts that no node follows.
use Rattle.std.proofs.Common.{◌≡◌, refl, ap, ap₂, ◌∙◌, ℕ, List, [], ◌∷◌, ◌++◌, codes}
use Rattle.std.specs.List.{flat_map}
use Rattle.batch_recipe.specs.{ActsAtNodes.ActList, ActsAtNodes.procedure_acts, Conditions.Name, Nodes.nodes, Procedure.bound_tree, Tree.Tree, declared.act.Act.Act, declared.recipe.Recipe.Recipe, declared.role.Role.Role as RecipeRole}
use Rattle.batch_outline.{specs.Showing.branches, specs.Showing.itself, specs.Showing.no_branch, specs.Showing.recipe_text, specs.Showing.row_text, specs.Showing.rows, specs.Showing.shown_recipes, specs.Trimmed.AreTrimmedRecipes, specs.Trimmed.IsTrimmed, proofs.TrimmedRecipes.acts_stay, proofs.TrimmedRecipes.tree_stays}

-- the text of a recipe, by all that it shows
abbrev text_of : List RecipeRole → Name → Tree → ActList → List ℕ
text_of roles name tree acts =
    codes "recipe " ++ (name ++ (codes "\n" ++ flat_map (row_text roles) (rows (nodes (0 ∷ []) [] tree) acts (branches no_branch tree))))

text_stays : (whole trimmed : Recipe) → IsTrimmed whole trimmed → recipe_text trimmed ≡ recipe_text whole
text_stays whole trimmed is =
    let entries = whole.outline.entries.items in
    let tree : Tree = bound_tree itself trimmed.acts in
    let acts : ActList = procedure_acts trimmed.acts in
    ap (λ roles. text_of roles.items trimmed.acts.procedure.name tree acts) is.roles
    ∙ ap (λ (a : Act). text_of whole.roles.items a.name tree acts) is.acts.procedure
    ∙ ap₂ (text_of whole.roles.items whole.acts.procedure.name)
    (tree_stays entries whole.acts trimmed.acts is.acts whole.outlined itself) (acts_stay entries whole.acts trimmed.acts is.acts whole.outlined)

pub shown_trimmed : (whole trimmed : List Recipe) → AreTrimmedRecipes whole trimmed → shown_recipes trimmed ≡ shown_recipes whole
shown_trimmed [] [] are = refl
shown_trimmed (w ∷ whole) (t ∷ trimmed) (is, are) = ap₂ (λ xs ys. xs ++ ys) (text_stays w t is) (shown_trimmed whole trimmed are)
shown_trimmed [] (t ∷ trimmed) are = absurd are
shown_trimmed (w ∷ whole) [] are = absurd are
