-- Recipes that are read with their texts.
use Rattle.std.proofs.Common.{◌≡◌, ℕ, ◌+◌, ◌<◌, ◌++◌, List, [], ◌∷◌, Result, Ok, Err, IfOk, OnOk, length, map, take, get_or, ap, refl, sym, subst, ◌∙◌, arith, append_assoc}
use Rattle.std.proofs.lemmas.List.{append-nil, map-append, take_more}
use Rattle.batch_recipe.specs.declared.recipe.Recipe.{Recipe}
use Rattle.batch_cell.specs.declared.cell.Cell.{Cell}
use Rattle.batch_journal.specs.{Digests.HasTaken, Digests.digits_of, declared.digest.DocumentsDigest.DocumentsDigest}
use Rattle.batch_verify.specs.{CertificateText.Rank, ClearedSet.ClearedSet}
use Rattle.batch_outline.specs.Trimmed.{AreTrimmedRecipes, IsTrimmed}
use Rattle.batch_verdicts.specs.{Gathering.AddsRecipe, Gathering.HoldsLines, Gathering.HoldsRecipes, WarningTexts.lines_on, WarningTexts.recipes_text, declared.gathering.ReadRecipes.ReadRecipes, Digested.AreDigested, Digested.ReadsCellText, Digested.ReadsRecipeText, Digested.ReadsTexts, Judging.IsClearedBy, Taking.AreTaken, Taking.ClearsBehind, Reading.AreCleared, Reading.AreRead, Reading.Gives, Reading.ReadsCertificate, Reading.ReadsRecipes, declared.refusal.Halt.Halt}

-- Recipes gathered one after the other

pub holds_none : (recipes : ReadRecipes) → recipes.recipes.items ≡ [] → HoldsLines recipes.lines [] → HoldsRecipes recipes [] []
holds_none recipes nothing silent = record { trimmed = rw nothing tt; lines = silent }

one_trimmed : (whole recipes : List Recipe) (r t : Recipe) → AreTrimmedRecipes whole recipes → IsTrimmed r t → AreTrimmedRecipes (whole ++ r ∷ []) (recipes ++ t ∷ [])
one_trimmed [] [] r t h is = (is, tt)
one_trimmed (w ∷ whole) (x ∷ recipes) r t h is = (h.0, one_trimmed whole recipes r t h.1 is)
one_trimmed [] (x ∷ recipes) r t h is = absurd h
one_trimmed (w ∷ whole) [] r t h is = absurd h

more_lines : (paths : List (List ℕ)) (whole : List Recipe) (path : List ℕ) (r : Recipe) → length paths ≡ length whole
    → recipes_text (paths ++ path ∷ []) (whole ++ r ∷ []) ≡ recipes_text paths whole ++ lines_on path r
more_lines [] [] path r same = append-nil (lines_on path r)
more_lines (p ∷ paths) (w ∷ whole) path r same =
    ap (λ text. lines_on p w ++ text) (more_lines paths whole path r (omega (arith, same))) ∙ sym (append_assoc (lines_on p w) (recipes_text paths whole) (lines_on path r))
more_lines [] (w ∷ whole) path r same = absurd (omega (arith, same))
more_lines (p ∷ paths) [] path r same = absurd (omega (arith, same))

pub holds_more : (old new : ReadRecipes) (paths : List (List ℕ)) (whole : List Recipe) (path : List ℕ) (r : Recipe) → length paths ≡ length whole
    → HoldsRecipes old paths whole → AddsRecipe old new path r → HoldsRecipes new (paths ++ path ∷ []) (whole ++ r ∷ [])
holds_more old new paths whole path r same holds adds = record {
  trimmed = rw adds.added (one_trimmed whole old.recipes.items r adds.trimmed holds.trimmed adds.is_trimmed);
  lines = rw (more_lines paths whole path r same) (adds.lines (recipes_text paths whole) holds.lines);
}

-- Their texts

pub none_taken : {T : Type 0} (has_taken : T → List (List ℕ) → Type 0) (gives : Gives) (recipes : ReadRecipes) (taker : T) → HoldsRecipes recipes [] [] → AreTaken has_taken gives [] recipes taker taker
none_taken has_taken gives recipes taker holds = record {
  whole = [];
  texts = [];
  read = tt;
  holds = holds;
  taken = λ before has. subst (λ (l : List (List ℕ)). has_taken taker l) (sym (append-nil before)) has;
}

as_many : (gives : Gives) (paths texts : List (List ℕ)) (rs : List Recipe) → ReadsTexts gives paths texts rs → length paths ≡ length rs
as_many gives [] [] [] read = refl
as_many gives (path ∷ paths) (text ∷ texts) (r ∷ rs) read = omega (arith, as_many gives paths texts rs read.1)
as_many gives [] [] (r ∷ rs) read = absurd read
as_many gives [] (text ∷ texts) rs read = absurd read
as_many gives (path ∷ paths) [] rs read = absurd read
as_many gives (path ∷ paths) (text ∷ texts) [] read = absurd read

pub reads_recipes : (gives : Gives) (paths texts : List (List ℕ)) (rs : List Recipe) → ReadsTexts gives paths texts rs → ReadsRecipes gives paths rs
reads_recipes gives [] [] [] read = tt
reads_recipes gives (path ∷ paths) (text ∷ texts) (r ∷ rs) read = ((text, read.0.0, read.0.1), reads_recipes gives paths texts rs read.1)
reads_recipes gives [] [] (r ∷ rs) read = absurd read
reads_recipes gives [] (text ∷ texts) rs read = absurd read
reads_recipes gives (path ∷ paths) [] rs read = absurd read
reads_recipes gives (path ∷ paths) (text ∷ texts) [] read = absurd read

reads_more : (gives : Gives) (paths texts : List (List ℕ)) (rs : List Recipe) (path text : List ℕ) (r : Recipe)
    → ReadsTexts gives paths texts rs → ReadsRecipeText gives path text r → ReadsTexts gives (paths ++ path ∷ []) (texts ++ text ∷ []) (rs ++ r ∷ [])
reads_more gives [] [] [] path text r before here = (here, tt)
reads_more gives (p ∷ paths) (t ∷ texts) (s ∷ rs) path text r before here = (before.0, reads_more gives paths texts rs path text r before.1 here)
reads_more gives [] [] (s ∷ rs) path text r before here = absurd before
reads_more gives [] (t ∷ texts) rs path text r before here = absurd before
reads_more gives (p ∷ paths) [] rs path text r before here = absurd before
reads_more gives (p ∷ paths) (t ∷ texts) [] path text r before here = absurd before

pub takes_next : {T X : Type 0} (has_taken : T → List (List ℕ) → Type 0) (gives : Gives) (text_of : X → List ℕ) (paths : List X) (i : ℕ) (path : X) (name text : List ℕ) (recipes more : ReadRecipes) (r : Recipe)
    (old mid new : T) → i < length paths → path ≡ get_or paths i path → name ≡ text_of path
    → AreTaken has_taken gives (map text_of (take i paths)) recipes old mid → ReadsRecipeText gives name text r
    → ((before : List (List ℕ)) → has_taken mid before → has_taken new (before ++ text ∷ [])) → AddsRecipe recipes more name r
    → AreTaken has_taken gives (map text_of (take (i + 1) paths)) more old new
takes_next has_taken gives text_of paths i path name text recipes more r old mid new within is value before here takes adds =
    let all : map text_of (take (i + 1) paths) ≡ map text_of (take i paths) ++ text_of path ∷ [] =
    ap (map text_of) (take_more paths i path within ∙ ap (λ p. take i paths ++ p ∷ []) (sym is)) ∙ map-append text_of (take i paths) (path ∷ []) in
    let named : ReadsRecipeText gives (text_of path) text r = rw value at here in
    let added : AddsRecipe recipes more (text_of path) r = rw value at adds in
    record {
      whole = before.whole ++ r ∷ [];
      texts = before.texts ++ text ∷ [];
      read = rw all (reads_more gives (map text_of (take i paths)) before.texts before.whole (text_of path) text r before.read named);
      holds = rw all (holds_more recipes more (map text_of (take i paths)) before.whole (text_of path) r (as_many gives (map text_of (take i paths)) before.texts before.whole before.read) before.holds added);
      taken = λ first has. subst (λ (l : List (List ℕ)). has_taken new l) (append_assoc first before.texts (text ∷ [])) (takes (first ++ before.texts) (before.taken first has));
    }

pub are_read : (gives : Gives) (cell certificate : List ℕ) (paths : List (List ℕ)) (c : Cell) (ranks : List Rank) (rs : List Recipe) (text : List ℕ) (texts : List (List ℕ))
    → ReadsCellText gives cell text c → ReadsCertificate gives certificate ranks → ReadsTexts gives paths texts rs → AreRead gives cell certificate paths c ranks rs
are_read gives cell certificate paths c ranks rs text texts with_cell with_certificate with_recipes = record {
  cell_read = (text, with_cell.0, with_cell.1);
  certificate_read = with_certificate;
  recipes_read = reads_recipes gives paths texts rs with_recipes;
}

-- a set that its certificate clears

pub clears_behind : {T : Type 0} (has_taken : T → List (List ℕ) → Type 0) (gives : Gives) (certificate : List ℕ) (paths : List (List ℕ)) (c : Cell) (ranks : List Rank) (recipes : ReadRecipes)
    (old new : T) (r : Result ClearedSet Halt) → ReadsCertificate gives certificate ranks → AreTaken has_taken gives paths recipes old new
    → IfOk r (λ set. (set.cell ≡ c) × (set.recipes ≡ recipes.recipes.items)) → OnOk r (IsClearedBy c recipes.recipes.items ranks)
    → IfOk r (λ set. ClearsBehind has_taken gives certificate paths c set old new)
clears_behind has_taken gives certificate paths c ranks recipes old new (Ok set) read taken (same_cell, same_recipes) cleared = record {
  ranks = ranks;
  whole = taken.whole;
  texts = taken.texts;
  same_cell = same_cell;
  certificate_read = read;
  read = taken.read;
  trimmed = rw same_recipes taken.holds.trimmed;
  taken = taken.taken;
  cleared = rw (same_cell, same_recipes) cleared;
}
clears_behind has_taken gives certificate paths c ranks recipes old new (Err h) read taken same cleared = tt

pub are_cleared : {T : Type 0} (has_taken : T → List (List ℕ) → Type 0) (gives : Gives) (cell certificate : List ℕ) (paths : List (List ℕ)) (c : Cell) (set : ClearedSet) (text : List ℕ)
    (old new : T) → ReadsCellText gives cell text c → ClearsBehind has_taken gives certificate paths c set old new → AreCleared gives cell certificate paths set
are_cleared has_taken gives cell certificate paths c set text old new with_cell behind = record {
  ranks = behind.ranks;
  recipes = behind.whole;
  read = are_read gives cell certificate paths set.cell behind.ranks behind.whole text behind.texts (rw behind.same_cell with_cell) behind.certificate_read behind.read;
  trimmed = behind.trimmed;
  cleared = behind.cleared;
}

pub are_digested : (gives : Gives) (cell certificate : List ℕ) (paths : List (List ℕ)) (c : Cell) (set : ClearedSet) (text digits : List ℕ) (old mid new : DocumentsDigest)
    → HasTaken old [] → ReadsCellText gives cell text c → ((texts : List (List ℕ)) → HasTaken old texts → HasTaken mid (texts ++ text ∷ []))
    → ClearsBehind HasTaken gives certificate paths c set mid new → ((texts : List (List ℕ)) → HasTaken new texts → digits ≡ digits_of texts)
    → AreDigested gives cell certificate paths set digits
are_digested gives cell certificate paths c set text digits old mid new nothing with_cell takes behind names = record {
  cell_text = text;
  texts = behind.texts;
  ranks = behind.ranks;
  recipes = behind.whole;
  cell_read = rw behind.same_cell with_cell;
  certificate_read = behind.certificate_read;
  recipes_read = behind.read;
  trimmed = behind.trimmed;
  cleared = behind.cleared;
  names = names (text ∷ behind.texts) (behind.taken (text ∷ []) (takes [] nothing));
}
