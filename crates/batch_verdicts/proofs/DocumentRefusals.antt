-- The refusals of documents that are looked at one after the other.
use Rattle.std.proofs.Common.{◌≡◌, ℕ, Bool, ◌+◌, ◌<◌, ◌++◌, List, [], ◌∷◌, Some, None, Result, Ok, Err, IfErr, inl, inr, length, map, take, get_or, suc, zero, refl, ap, sym, subst, arith, append_assoc, append-nil, ◌∙◌}
use Rattle.std.{proofs.lemmas.List.map-append, proofs.lemmas.List.take_more, specs.Prelude.String, specs.Global.Global}
use Rattle.batch_cell.specs.declared.cell.Cell.{Cell}
use Rattle.batch_recipe.specs.declared.recipe.Recipe.{Recipe}
use Rattle.batch_outline.specs.Trimmed.{AreTrimmedRecipes}
use Rattle.batch_verdicts.{proofs.RecipeTexts.holds_more, specs.Every.AreKeptIf, specs.Gathering.HoldsRecipes, specs.declared.gathering.ReadRecipes.ReadRecipes, specs.Every.AreLooked, specs.Every.AreRefusalsOf, specs.Every.HaltsAsked, specs.Every.HaltsAtLook, specs.Every.IsOneUnread, specs.Every.RefusesRules, specs.Halting.HaltsAtCell, specs.Halting.HaltsAtRecipe, specs.Looking.AreAllRead, specs.Looking.IsCellLooked, specs.Looking.IsLooked, specs.Looking.IsReadAsked, specs.Looking.LooksOn, specs.Reading.AreReadWarned, specs.Reading.Gives, specs.Reading.IsSoWarned, specs.Reading.IsUnread, specs.Reading.ReadsRecipe, specs.Reading.ReadsRecipes, specs.Reading.Warns, specs.declared.refusal.DocumentRefusal.DocumentRefusal, specs.declared.refusal.Halt.Halt, specs.declared.refusal.Halt.TheVariants.Refused, specs.declared.refusal.Halt.TheVariants.Unread}

-- if nothing is refused, all are read
pub all_read : (gives : Gives) (paths : List (List ℕ)) (rs : List Recipe) (refusals : List DocumentRefusal)
    → AreLooked gives paths rs refusals → refusals ≡ [] → ReadsRecipes gives paths rs
all_read gives [] rs refusals (none, _) is = rw none tt
all_read gives (path ∷ paths) rs refusals (inl (r, more, read, joined, looked)) is =
    rw joined (read, all_read gives paths more refusals looked is)
all_read gives (path ∷ paths) rs refusals (inr (refusal, others, halts, joined, looked)) is = absurd cc

recipe_more : (gives : Gives) (paths : List (List ℕ)) (rs : List Recipe) (refusals : List DocumentRefusal) (path : List ℕ) (r : Recipe)
    → AreLooked gives paths rs refusals → ReadsRecipe gives path r → AreLooked gives (paths ++ path ∷ []) (rs ++ r ∷ []) refusals
recipe_more gives [] rs refusals path r (none, silent) read = inl (r, [], read, ap (λ xs. xs ++ r ∷ []) none, (refl, silent))
recipe_more gives (p ∷ paths) rs refusals path r (inl (s, more, here, joined, looked)) read =
    inl (s, more ++ r ∷ [], here, ap (λ xs. xs ++ r ∷ []) joined, recipe_more gives paths more refusals path r looked read)
recipe_more gives (p ∷ paths) rs refusals path r (inr (refusal, others, halts, joined, looked)) read =
    inr (refusal, others, halts, joined, recipe_more gives paths rs others path r looked read)

refusal_more : (gives : Gives) (paths : List (List ℕ)) (rs : List Recipe) (refusals : List DocumentRefusal) (path : List ℕ) (last : DocumentRefusal)
    → AreLooked gives paths rs refusals → HaltsAtRecipe gives path (Refused last) → AreLooked gives (paths ++ path ∷ []) rs (refusals ++ last ∷ [])
refusal_more gives [] rs refusals path last (none, silent) halts = inr (last, [], halts, ap (λ xs. xs ++ last ∷ []) silent, (none, refl))
refusal_more gives (p ∷ paths) rs refusals path last (inl (s, more, here, joined, looked)) halts =
    inl (s, more, here, joined, refusal_more gives paths more refusals path last looked halts)
refusal_more gives (p ∷ paths) rs refusals path last (inr (refusal, others, here, joined, looked)) halts =
    inr (refusal, others ++ last ∷ [], here, ap (λ xs. xs ++ last ∷ []) joined, refusal_more gives paths rs others path last looked halts)

as_many : (gives : Gives) (paths : List (List ℕ)) (rs : List Recipe) (refusals : List DocumentRefusal) → AreLooked gives paths rs refusals → refusals ≡ [] → length paths ≡ length rs
as_many gives [] rs refusals (nothing, _) is = rw nothing refl
as_many gives (path ∷ paths) rs refusals (inl (r, more, read, joined, looked)) is = omega (arith, ap length joined, as_many gives paths more refusals looked is)
as_many gives (path ∷ paths) rs refusals (inr (refusal, others, halts, joined, looked)) is = absurd cc

some_last : (here : List DocumentRefusal) (last : DocumentRefusal) → here ++ last ∷ [] ≡ [] → ⊥
some_last [] last is = cc
some_last (refusal ∷ here) last is = cc

-- one more document
looks_more : (gives : Gives) (paths : List (List ℕ)) (path : List ℕ) (before : List DocumentRefusal) (recipes : ReadRecipes) (refusals : List DocumentRefusal)
    (more : ReadRecipes) (others : List DocumentRefusal)
    → LooksOn gives paths before recipes refusals → IsLooked gives path recipes refusals more others → LooksOn gives (paths ++ path ∷ []) before more others
looks_more gives paths path before recipes refusals more others looks (inl (r, read, adds, same)) = record {
  whole = looks.whole ++ r ∷ [];
  here = looks.here;
  looked = recipe_more gives paths looks.whole looks.here path r looks.looked read;
  joined = same ∙ looks.joined;
  holds = λ silent. holds_more recipes more paths looks.whole path r (as_many gives paths looks.whole looks.here looks.looked silent) (looks.holds silent) adds;
}
looks_more gives paths path before recipes refusals more others looks (inr (last, halts, same, grown)) = record {
  whole = looks.whole;
  here = looks.here ++ last ∷ [];
  looked = refusal_more gives paths looks.whole looks.here path last looks.looked halts;
  joined = grown ∙ ap (λ xs. xs ++ last ∷ []) looks.joined ∙ append_assoc before looks.here (last ∷ []);
  holds = λ silent. absurd (some_last looks.here last silent);
}

pub looks_next : {X : Type 0} (gives : Gives) (text_of : X → List ℕ) (paths : List X) (i : ℕ) (path : X) (text : List ℕ) (before : List DocumentRefusal)
    (recipes : ReadRecipes) (refusals : List DocumentRefusal) (more : ReadRecipes) (others : List DocumentRefusal)
    → i < length paths → path ≡ get_or paths i path → text ≡ text_of path
    → LooksOn gives (map text_of (take i paths)) before recipes refusals → IsLooked gives text recipes refusals more others
    → LooksOn gives (map text_of (take (i + 1) paths)) before more others
looks_next gives text_of paths i path text before recipes refusals more others within is value looked here =
    let all : map text_of (take (i + 1) paths) ≡ map text_of (take i paths) ++ text_of path ∷ [] =
    ap (map text_of) (take_more paths i path within ∙ ap (λ p. take i paths ++ p ∷ []) (sym is)) ∙ map-append text_of (take i paths) (path ∷ []) in
    let named : IsLooked gives (text_of path) recipes refusals more others = subst (λ t. IsLooked gives t recipes refusals more others) value here in
    rw all (looks_more gives (map text_of (take i paths)) (text_of path) before recipes refusals more others looked named)

-- a document that ends it, and isn't refused, can't be read

pub cell_unread : (gives : Gives) (path : List ℕ) (message : String Global) → HaltsAtCell gives path (Unread message) → IsUnread gives path (Unread message)
cell_unread gives path message (inl unread) = unread
cell_unread gives path message (inr (bytes, given, refuses)) = absurd refuses.halts

pub recipe_unread : (gives : Gives) (path : List ℕ) (message : String Global) → HaltsAtRecipe gives path (Unread message) → IsUnread gives path (Unread message)
recipe_unread gives path message (inl unread) = unread
recipe_unread gives path message (inr (bytes, given, refuses)) = absurd refuses.halts

-- nothing is looked at
pub looks_at_none : (gives : Gives) (before : List DocumentRefusal) (recipes : ReadRecipes) → HoldsRecipes recipes [] [] → LooksOn gives [] before recipes before
looks_at_none gives before recipes holds = record { whole = []; here = []; looked = (refl, refl); joined = sym (append-nil before); holds = λ _. holds }

-- one that can't be read ends it
pub unread_at : {X : Type 0} (gives : Gives) (text_of : X → List ℕ) (paths : List X) (i : ℕ) (path : X) (h : Halt)
    → i < length paths → path ≡ get_or paths i path → IsUnread gives (text_of path) h → IsOneUnread gives (map text_of paths) h
unread_at gives text_of [] i path h within is here = absurd (omega (arith, within))
unread_at gives text_of (p ∷ paths) zero path h within is here =
    let At : List ℕ → Type 0 = λ t. IsUnread gives t h in
    inl (subst At (ap text_of is) here)
unread_at gives text_of (p ∷ paths) (suc i) path h within is here = inr (unread_at gives text_of paths i path h (omega (arith, within)) is here)

-- All documents

no_refusal : (before here : List DocumentRefusal) → before ++ here ≡ [] → here ≡ []
no_refusal [] here is = is
no_refusal (refusal ∷ before) here is = absurd cc

-- the cell and the recipes are read if nothing is refused
pub read_whole : (gives : Gives) (cell : List ℕ) (paths : List (List ℕ)) (before : List DocumentRefusal) (c : Cell) (recipes : ReadRecipes) (refusals : List DocumentRefusal)
    → IsCellLooked gives cell [] (Some c) before → LooksOn gives paths before recipes refusals → refusals ≡ [] → AreAllRead gives cell paths c recipes
read_whole gives cell paths before c recipes refusals (read, _) looks is =
    let silent : looks.here ≡ [] = no_refusal before looks.here (sym looks.joined ∙ is) in
    record {
      whole = looks.whole;
      cell_read = read;
      recipes_read = all_read gives paths looks.whole looks.here looks.looked silent;
      holds = looks.holds silent;
    }

not_none : (before here refusals : List DocumentRefusal) (refusal : DocumentRefusal) → before ≡ refusal ∷ [] → refusals ≡ before ++ here → refusals ≡ [] → ⊥
not_none before here refusals refusal first joined is =
    let grown : refusals ≡ refusal ∷ here = joined ∙ ap (λ xs. xs ++ here) first in cc

-- all refusals are reported
pub all_refused : (gives : Gives) (cell : List ℕ) (paths : List (List ℕ)) (before : List DocumentRefusal) (c : Cell) (recipes : ReadRecipes) (refusals : List DocumentRefusal)
    → IsCellLooked gives cell [] (Some c) before → LooksOn gives paths before recipes refusals → AreRefusalsOf gives cell paths refusals
all_refused gives cell paths before c recipes refusals (read, nothing) looks = record {
  of_cell = before;
  of_recipes = looks.here;
  recipes = looks.whole;
  cell_refused = inl (c, read, nothing);
  looked = looks.looked;
  joined = looks.joined;
}

pub cell_refused : (gives : Gives) (cell : List ℕ) (paths : List (List ℕ)) (before : List DocumentRefusal) (recipes : ReadRecipes) (refusals : List DocumentRefusal)
    → IsCellLooked gives cell [] None before → LooksOn gives paths before recipes refusals → AreRefusalsOf gives cell paths refusals × ¬ (refusals ≡ [])
cell_refused gives cell paths before recipes refusals (refusal, halts, first) looks = (
  record {
    of_cell = before;
    of_recipes = looks.here;
    recipes = looks.whole;
    cell_refused = inr (refusal, halts, first);
    looked = looks.looked;
    joined = looks.joined;
  },
  not_none before looks.here refusals refusal first looks.joined,
)

-- Sound recipes

-- a fact of documents that were read
pub so_of_asked : (all : Bool) (gives : Gives) (warns : Warns) (cell : List ℕ) (paths : List (List ℕ)) (c : Cell) (rs : List Recipe) (is_so : Cell → List Recipe → Type 0)
    → IsReadAsked all gives warns cell paths c rs → is_so c rs → IsSoWarned gives warns cell paths is_so
so_of_asked all gives warns cell paths c rs is_so asked so = record {
  equipment = c;
  recipes = asked.whole;
  cell_read = asked.read.cell_read;
  recipes_read = asked.read.recipes_read;
  judged = (asked.read.warned, (rs, asked.trimmed, so));
}

pub judged_asked : {A : Type 0} (all : Bool) (gives : Gives) (warns : Warns) (cell : List ℕ) (paths : List (List ℕ)) (c : Cell) (rs : List Recipe)
    (refuses : Halt → Cell → List Recipe → Type 0) (r : Result A Halt) → IsReadAsked all gives warns cell paths c rs → IfErr r (λ h. refuses h c rs)
    → IfErr r (λ h. HaltsAsked all gives warns cell paths (refuses h) h)
judged_asked all gives warns cell paths c rs refuses (Ok x) asked k = tt
judged_asked all gives warns cell paths c rs refuses (Err h) asked k =
    inr (so_of_asked all gives warns cell paths c rs (λ d ts. AreKeptIf all d ts × refuses h d ts) asked (asked.kept, k))

-- rules are broken
pub broken_at : (gives : Gives) (warns : Warns) (cell : List ℕ) (paths : List (List ℕ)) (c : Cell) (whole rs : List Recipe) (h : Halt)
    → AreReadWarned gives warns cell paths c whole → AreTrimmedRecipes whole rs → RefusesRules c rs h → HaltsAtLook gives warns cell paths h
broken_at gives warns cell paths c whole rs h read trimmed broken = inr (record {
  equipment = c;
  recipes = whole;
  cell_read = read.cell_read;
  recipes_read = read.recipes_read;
  judged = (read.warned, (rs, trimmed, broken));
})
