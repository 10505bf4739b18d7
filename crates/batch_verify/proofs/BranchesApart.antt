-- Branches that run apart.
use Rattle.std.proofs.Common.{◌≡◌, ◌↔◌, Bool, true, false, ◌&&◌, ⊎_elim, ◌++◌, List, [], ◌∷◌, sym, ap₂, ◌∙◌, refl, subst}
use Rattle.std.{specs.Bool.IsTrue, specs.Cmp.Lexicographic.bytes_decides, proofs.lemmas.Bool.and_parts, proofs.lemmas.Bool.false_from_ne_true, proofs.lemmas.Bool.or_cases, proofs.lemmas.Bool.or_left, proofs.lemmas.Bool.or_right}
use Rattle.batch_recipe.specs.{Conditions.Name, Conditions.same_name, Tree.Phase, Tree.Tree, Tree.Trees, Tree.tree, WellFormed.is_among}
use Rattle.batch_model.specs.{Lists.Each, Cleared.phases, Cleared.phases_of_each, Cleared.RunApart, Cleared.BranchesRunApart}
use Rattle.batch_verify.{specs.Walking.phase_names, proofs.PhaseNames.is_among-append, proofs.PhaseNames.phase_names-append}

-- no name is among both
abbrev pub AreApart : List Name → List Name → Type 0
AreApart xs ys = (x : Name) → is_among xs x ≡ true → is_among ys x ≡ true → ⊥

each_differs : (name : Name) (ys : List Phase) → Each (λ y. same_name name y.name ≡ false) ys → is_among (phase_names ys) name ≡ false
each_differs name [] h = refl
each_differs name (y ∷ ys) h = rw h.0 (each_differs name ys h.1)

differs_each : (name : Name) (ys : List Phase) → (is_among (phase_names ys) name ≡ true → ⊥) → Each (λ y. same_name name y.name ≡ false) ys
differs_each name [] h = tt
differs_each name (y ∷ ys) h = (
  false_from_ne_true (same_name name y.name) (λ e. h (or_left (same_name name y.name) (is_among (phase_names ys) name) e)),
  differs_each name ys (λ e. h (or_right (same_name name y.name) (is_among (phase_names ys) name) e)),
)

names_apart : (xs ys : List Phase) → RunApart xs ys → AreApart (phase_names xs) (phase_names ys)
names_apart [] ys h x a b = let bad : false ≡ true = a in cc
names_apart (p ∷ xs) ys h x a b = ⊎_elim
    (λ (here : same_name x p.name ≡ true).
    let none : is_among (phase_names ys) x ≡ false = subst (λ z. is_among (phase_names ys) z ≡ false) (sym ((bytes_decides x p.name).0 here)) (each_differs p.name ys h.0) in
    let bad : true ≡ false = sym b ∙ none in cc)
    (λ (later : is_among (phase_names xs) x ≡ true). names_apart xs ys h.1 x later b)
    (or_cases (same_name x p.name) (is_among (phase_names xs) x) a)

run_apart : (xs ys : List Phase) → AreApart (phase_names xs) (phase_names ys) → RunApart xs ys
run_apart [] ys h = tt
run_apart (p ∷ xs) ys h = (
  differs_each p.name ys (h p.name (or_left (same_name p.name p.name) (is_among (phase_names xs) p.name) ((bytes_decides p.name p.name).1 refl))),
  run_apart xs ys (λ x a. h x (or_right (same_name x p.name) (is_among (phase_names xs) x) a)),
)

-- names that are apart from those of two lists
apart_swap : (xs ys : List Name) → AreApart xs ys → AreApart ys xs
apart_swap xs ys h x a b = h x b a

apart_both : (xs ys zs : List Name) → AreApart xs zs → AreApart ys zs → AreApart (xs ++ ys) zs
apart_both xs ys zs f g x a b = ⊎_elim (λ (i : is_among xs x ≡ true). f x i b) (λ (i : is_among ys x ≡ true). g x i b) (or_cases (is_among xs x) (is_among ys x) (sym (is_among-append xs ys x) ∙ a))

apart_first : (xs ys zs : List Name) → AreApart (xs ++ ys) zs → AreApart xs zs
apart_first xs ys zs h x a b = h x (is_among-append xs ys x ∙ or_left (is_among xs x) (is_among ys x) a) b

apart_second : (xs ys zs : List Name) → AreApart (xs ++ ys) zs → AreApart ys zs
apart_second xs ys zs h x a b = h x (is_among-append xs ys x ∙ or_right (is_among xs x) (is_among ys x) a) b

-- all branches run apart just where the earlier ones do, those that are left do, and these run none of the phases of the earlier ones
abbrev pub KeepsApart : Bool → List Name → Trees → Trees → Type 0
KeepsApart apart earlier left all = (IsTrue apart × AreApart earlier (phase_names (phases_of_each left)) × BranchesRunApart left) ↔ BranchesRunApart all

-- one branch is looked at
pub KeepsApart-next : (apart own_apart : Bool) (earlier : List Name) (t : Tree) (rest all : Trees) → KeepsApart apart earlier (tree t rest) all → IsTrue own_apart ↔ AreApart earlier (phase_names (phases t))
    → KeepsApart (own_apart && apart) (earlier ++ phase_names (phases t)) rest all
KeepsApart-next apart own_apart earlier t rest all h d = (
  λ all_apart.
      let flags = and_parts own_apart apart all_apart.0 in
      let none = apart_both own later earlier (apart_swap earlier own (d.0 flags.0)) (apart_swap earlier later (apart_first earlier own later all_apart.1)) in
      h.0 (flags.1, subst (AreApart earlier) (sym both) (apart_swap (own ++ later) earlier none), (run_apart (phases t) (phases_of_each rest) (apart_second earlier own later all_apart.1), all_apart.2)),
  λ run.
      let was = h.1 run in
      let none = apart_swap earlier (own ++ later) (subst (AreApart earlier) both was.1) in (
        ap₂ (λ a b. a && b) (d.1 (apart_swap own earlier (apart_first own later earlier none))) was.0,
        apart_both earlier own later (apart_swap later earlier (apart_second own later earlier none)) (names_apart (phases t) (phases_of_each rest) was.2.0),
        was.2.1,
      ),
)
  where
    own : List Name
    own = phase_names (phases t)

    later : List Name
    later = phase_names (phases_of_each rest)

    both : phase_names (phases_of_each (tree t rest)) ≡ own ++ later
    both = phase_names-append (phases t) (phases_of_each rest)
