-- The entries added to an outline: a node with those below it, and branches one after another.
use Rattle.std.proofs.Common.{◌≡◌, ℕ, suc, ◌+◌, ◌<◌, ◌≤◌, List, [], ◌∷◌, ◌++◌, map, get_or, drop, length, Option, Some, None, Result, Ok, Err, Bool, position, slice_get, sym, ap, ◌∙◌, refl, subst, arith, add-one, drop-cons, drop_of_length-le, length-append, append_assoc, append-nil}
use Rattle.std.{specs.List.find, proofs.lemmas.Grind.common_steps, proofs.lemmas.List.Folds.find_at, proofs.lemmas.Option.slice_get_past}
use Rattle.batch_recipe.specs.{Conditions.Name, Diagram.Diagram, Diagram.diagram_of, Diagram.cases_of, Procedure.table_at, Procedure.level_below, Growing.Head, Growing.Labels, Growing.LabelConditions, Growing.entry, Growing.topped, Growing.bare_entries, Growing.grown, Growing.grown_cases, Growing.grown_act, Growing.grown_named, Growing.levels_from, Growing.number_in, Growing.unit_number, Growing.conditions_along_cases, Growing.conditions_named, Growing.told_from, Growing.named_from, Growing.branch_entries, Growing.branch_conditions, Growing.chart_entries, Growing.chart_conditions, Growing.act_entries, Growing.act_conditions, Growing.HasBegun, Growing.HasEnded, Growing.HasGrown, Growing.HasAdded, declared.act.Act.Act, declared.acts.Acts.Acts, declared.acts.LabelTable.LabelTable, declared.chart.Chart.Chart, declared.condition.Condition.Condition, declared.entry.Entry.Entry, declared.outline_fault.OutlineFault.OutlineFault, declared.outline_fault.OutlineFault.TheVariants.TooMany, declared.outline_fault.OutlineFault.TheVariants.Memory, declared.recipe.TheConstants.MAX_NODES}
use Rattle.batch_recipe.specs.Diagram as chart
use Rattle.batch_recipe.specs.declared.entry.Kind.TheVariants as kind

-- the first that passes, by its number
module _ {X : Type 0} (p : X → Bool) (xs : List X) where
  pub found_at : (i : ℕ) → position p xs ≡ Some i → find p xs ≡ slice_get xs i
  found_at i e = grind (arith, find_at p xs, common_steps)

  pub not_found : position p xs ≡ None → find p xs ≡ None
  not_found e = grind (arith, find_at p xs, common_steps, slice_get_past)

-- A node was begun, those below it came, and it has its end.
module _ (before begun grown_to ended : List Entry) (k : Head) (n u i : ℕ) (below : ℕ → ℕ → List Entry) (b : HasBegun before k u i begun (Ok n)) where
  shifted : below (length begun) n ≡ below (length before + 1) (length before)
  shifted =
      let size : length begun ≡ length before + 1 = ap length b.1 ∙ length-append before (entry k (n + 1) u i ∷ []) in
      ap (λ m. below m n) size ∙ ap (below (length before + 1)) b.0

  pub node_grown : (grown_to ≡ begun ++ below (length begun) n) × (length grown_to ≤ MAX_NODES) → HasEnded grown_to n ended
      → (ended ≡ before ++ topped k (length before) u i (below (length before + 1) (length before))) × (length ended ≤ MAX_NODES)
  node_grown g f =
      let es = below (length before + 1) (length before) in
      let is : grown_to ≡ before ++ entry k (n + 1) u i ∷ es =
      g.0 ∙ (ap (λ xs. xs ++ below (length begun) n) b.1 ∙ (ap (λ xs. before ++ entry k (n + 1) u i ∷ [] ++ xs) shifted ∙ append_assoc before (entry k (n + 1) u i ∷ []) es)) in
      let size : length grown_to ≡ length before + 1 + length es = omega (arith, ap length is, length-append before (entry k (n + 1) u i ∷ es)) in
      let done : ended ≡ before ++ topped k (length before) u i es = f before es k (n + 1) u i is (sym b.0) ∙ ap (λ m. before ++ entry k m u i ∷ es) size in
      let last : length ended ≡ length before + 1 + length es = omega (arith, ap length done, length-append before (topped k (length before) u i es)) in
      (done, omega (arith, g.1, size, last))

  pub node_failed : (fault : OutlineFault) → HasGrown begun (below (length begun) n) grown_to (Err fault)
      → HasGrown before (topped k (length before) u i (below (length before + 1) (length before))) grown_to (Err fault)
  node_failed TooMany h = omega (arith, h, ap length shifted, ap length b.1, length-append before (entry k (n + 1) u i ∷ []))
  node_failed Memory h = tt

levels_cons : (level : LabelTable) → levels_from (Some level) ≡ level ∷ levels_from (level_below level)
levels_cons level = grind arith

-- a label
module _ (acts : Acts) (level : Option LabelTable) (name : Name) where
  module _ (table : LabelTable) (at : level ≡ Some table) where
    pub no_number : (o n j u i : ℕ) → number_in (table_at acts table) name ≡ None → chart_entries acts level o n j u i (chart.label name) ≡ bare_entries n u i
    no_number o n j u i e = rw (at, levels_cons table, grown_named, e) refl

    pub no_number_told : number_in (table_at acts table) name ≡ None → chart_conditions acts level (chart.label name) ≡ []
    no_number_told e = rw (at, levels_cons table, conditions_named, e) refl

    module _ (k : ℕ) (e : number_in (table_at acts table) name ≡ Some k) where
      pub some_act : (o n j u i : ℕ) (a : Act) (below : Option LabelTable) → below ≡ level_below table → slice_get (table_at acts table) k ≡ Some a
          → chart_entries acts level o n j u i (chart.label name) ≡ act_entries acts below (kind.Act table k) (unit_number table k o) n j u i a
      some_act o n j u i a below b f = rw (at, levels_cons table, grown_named, e, f, b) refl

      pub some_act_told : (a : Act) (below : Option LabelTable) → below ≡ level_below table → slice_get (table_at acts table) k ≡ Some a
          → chart_conditions acts level (chart.label name) ≡ act_conditions acts below a
      some_act_told a below b f = rw (at, levels_cons table, conditions_named, e, f, b) refl

cut : {X : Type 0} (xs : List X) (i : ℕ) (x : X) → i < length xs → x ≡ get_or xs i x → drop i xs ≡ x ∷ drop (i + 1) xs
cut {X} xs i x in' is = rw add-one (drop-cons xs i x in' ∙ ap (λ (y : X). y ∷ drop (suc i) xs) (sym is))

-- a tree has a node
pub some_grown : (told : LabelConditions) (named : Labels) → ((name : Name) (n j u i : ℕ) → 0 < length (named name n j u i)) → (n j u i : ℕ) (d : Diagram) → 0 < length (grown told named n j u i d)
some_grown told named some n j u i (chart.label name) = some name n j u i
some_grown told named some n j u i d = grind arith

named_found : (acts : Acts) (levels : List LabelTable) (level : LabelTable) (k : ℕ) (found : Option Act) (o n j u i : ℕ)
    → 0 < length {A = Entry} (elim found [ None ↦ bare_entries n u i | Some a ↦ grown_act (conditions_named acts levels) (grown_named acts levels (unit_number level k o)) (kind.Act level k) (unit_number level k o) n j u i a ])
named_found acts levels level k found o n j u i = grind arith

named_number : (acts : Acts) (levels : List LabelTable) (level : LabelTable) (number : Option ℕ) (o n j u i : ℕ)
    → 0 < length {A = Entry} (elim number [
      | None ↦ bare_entries n u i
      | Some k ↦ elim (slice_get (table_at acts level) k) [
        | None ↦ bare_entries n u i
        | Some a ↦ grown_act (conditions_named acts levels) (grown_named acts levels (unit_number level k o)) (kind.Act level k) (unit_number level k o) n j u i a
      ]
    ])
named_number acts levels level number o n j u i = grind (arith, named_found)

pub some_named : (acts : Acts) (levels : List LabelTable) (o : ℕ) (name : Name) (n j u i : ℕ) → 0 < length (grown_named acts levels o name n j u i)
some_named acts [] o name n j u i = omega arith
some_named acts (level ∷ levels) o name n j u i = named_number acts levels level (number_in (table_at acts level) name) o n j u i

module _ (acts : Acts) (level : Option LabelTable) (o u : ℕ) where
  abbrev each : ℕ → ℕ → ℕ → List Chart → List Entry
  each n j i parts = branch_entries acts level o n j u i (map diagram_of parts)

  abbrev each_told : List Chart → List Condition
  each_told parts = branch_conditions acts level (map diagram_of parts)

  abbrev case_of : (Condition × Chart) → Condition × Diagram
  case_of choice = (choice.0, diagram_of choice.1)

  abbrev cases : ℕ → ℕ → ℕ → List (Condition × Chart) → Chart → List Entry
  cases n j i choices last = grown_cases (told_from acts level) (named_from acts level o) n j u i (cases_of (map case_of choices) (diagram_of last))

  abbrev cases_told : List (Condition × Chart) → Chart → List Condition
  cases_told choices last = conditions_along_cases (told_from acts level) (cases_of (map case_of choices) (diagram_of last))

  abbrev one : ℕ → ℕ → ℕ → Chart → List Entry
  one n j i c = chart_entries acts level o n j u i (diagram_of c)

  abbrev one_told : Chart → List Condition
  one_told c = chart_conditions acts level (diagram_of c)

  some_one : (n j i : ℕ) (c : Chart) → 0 < length (one n j i c)
  some_one n j i c = some_grown (told_from acts level) (named_from acts level o) (some_named acts (levels_from level) o) n j u i (diagram_of c)

  -- those that came and those that are left are all
  pub record KeepsGrowing (parts : List Chart) (before : List Entry) (cbefore : List Condition) (index child : ℕ) (now : List Entry) (cnow : List Condition) : Type 0 where
    pub counted : child ≡ index
    pub done : List Entry
    pub told : List Condition
    pub some : index ≤ length done
    pub now_is : now ≡ before ++ done
    pub told_is : cnow ≡ cbefore ++ told
    pub small : length now ≤ MAX_NODES
    pub all : each (length before) (length cbefore) 0 parts ≡ done ++ each (length now) (length cnow) index (drop index parts)
    pub all_told : each_told parts ≡ told ++ each_told (drop index parts)

  pub record KeepsChoosing (choices : List (Condition × Chart)) (last : Chart) (before : List Entry) (cbefore : List Condition) (index child : ℕ) (now : List Entry) (cnow : List Condition) : Type 0 where
    pub counted : child ≡ index
    pub done : List Entry
    pub told : List Condition
    pub some : index ≤ length done
    pub now_is : now ≡ before ++ done
    pub told_is : cnow ≡ cbefore ++ told
    pub small : length now ≤ MAX_NODES
    pub all : cases (length before) (length cbefore) 0 choices last ≡ done ++ cases (length now) (length cnow) index (drop index choices) last
    pub all_told : cases_told choices last ≡ told ++ cases_told (drop index choices) last

  module _ (parts : List Chart) (before now : List Entry) (cbefore cnow : List Condition) (index child : ℕ) (h : KeepsGrowing parts before cbefore index child now cnow) where
    module _ (part : Chart) (in' : index < length parts) (is : part ≡ get_or parts index part) (after : List Entry) where
      abbrev own : List Entry
      own = one (length now) (length cnow) index part

      split : each (length before) (length cbefore) 0 parts ≡ h.done ++ (own ++ each (length now + length own) (length cnow + length (one_told part)) (index + 1) (drop (index + 1) parts))
      split = h.all ∙ ap (λ ps. h.done ++ each (length now) (length cnow) index ps) (cut parts index part in' is)

      split_told : each_told parts ≡ h.told ++ (one_told part ++ each_told (drop (index + 1) parts))
      split_told = h.all_told ∙ ap (λ ps. h.told ++ each_told ps) (cut parts index part in' is)

      pub KeepsGrowing-more : (cafter : List Condition) → (after ≡ now ++ one (length now) (length cnow) child part) × (length after ≤ MAX_NODES) → cafter ≡ cnow ++ one_told part → KeepsGrowing parts before cbefore (index + 1) (child + 1) after cafter
      KeepsGrowing-more cafter g t =
          let es = own in
          let is' : after ≡ now ++ es = g.0 ∙ ap (λ i. now ++ one (length now) (length cnow) i part) h.counted in
          let size : length after ≡ length now + length es = ap length is' ∙ length-append now es in
          let size_told : length cafter ≡ length cnow + length (one_told part) = ap length t ∙ length-append cnow (one_told part) in
          let rest = drop (index + 1) parts in
          record {
            counted = omega (arith, h.counted);
            done = h.done ++ es;
            told = h.told ++ one_told part;
            some = omega (arith, h.some, length-append h.done es, some_one (length now) (length cnow) index part);
            now_is = is' ∙ (ap (λ xs. xs ++ es) h.now_is ∙ append_assoc before h.done es);
            told_is = t ∙ (ap (λ xs. xs ++ one_told part) h.told_is ∙ append_assoc cbefore h.told (one_told part));
            small = g.1;
            all = split ∙ (sym (append_assoc h.done es (each (length now + length es) (length cnow + length (one_told part)) (index + 1) rest))
                ∙ (ap (λ m. h.done ++ es ++ each m (length cnow + length (one_told part)) (index + 1) rest) (sym size)
                ∙ ap (λ m. h.done ++ es ++ each (length after) m (index + 1) rest) (sym size_told)));
            all_told = split_told ∙ sym (append_assoc h.told (one_told part) (each_told rest));
          }

      pub KeepsGrowing-stop : (fault : OutlineFault) → HasGrown now (one (length now) (length cnow) child part) after (Err fault) → HasGrown before (each (length before) (length cbefore) 0 parts) after (Err fault)
      KeepsGrowing-stop TooMany f =
          let es = own in
          let rest = each (length now + length es) (length cnow + length (one_told part)) (index + 1) (drop (index + 1) parts) in
          let same : length (one (length now) (length cnow) child part) ≡ length es = ap (λ i. length (one (length now) (length cnow) i part)) h.counted in
          omega (arith, f, same, ap length split, length-append h.done (es ++ rest), length-append es rest, ap length h.now_is, length-append before h.done)
      KeepsGrowing-stop Memory f = tt

    pub KeepsGrowing-room : child ≤ MAX_NODES
    KeepsGrowing-room = omega (arith, h.counted, h.some, h.small, ap length h.now_is, length-append before h.done)

    pub KeepsGrowing-all : length parts ≤ index → (now ≡ before ++ each (length before) (length cbefore) 0 parts) × (length now ≤ MAX_NODES)
    KeepsGrowing-all past = grind (arith, drop_of_length-le parts past, append-nil h.done)

    pub KeepsGrowing-told : length parts ≤ index → cnow ≡ cbefore ++ each_told parts
    KeepsGrowing-told past = grind (arith, drop_of_length-le parts past, append-nil h.told)

  module _ (choices : List (Condition × Chart)) (last : Chart) (before now : List Entry) (cbefore cnow : List Condition) (index child : ℕ) (h : KeepsChoosing choices last before cbefore index child now cnow) (after : List Entry) where
    module _ (choice : Condition × Chart) (in' : index < length choices) (is : choice ≡ get_or choices index choice) where
      abbrev branch : List Entry
      branch = one (length now) (length cnow) index choice.1

      splitc : cases (length before) (length cbefore) 0 choices last ≡ h.done ++ (branch ++ cases (length now + length branch) (length cnow + length (one_told choice.1)) (index + 1) (drop (index + 1) choices) last)
      splitc = h.all ∙ ap (λ ps. h.done ++ cases (length now) (length cnow) index ps last) (cut choices index choice in' is)

      splitc_told : cases_told choices last ≡ h.told ++ (one_told choice.1 ++ cases_told (drop (index + 1) choices) last)
      splitc_told = h.all_told ∙ ap (λ ps. h.told ++ cases_told ps last) (cut choices index choice in' is)

      pub KeepsChoosing-more : (cafter : List Condition) → (after ≡ now ++ one (length now) (length cnow) child choice.1) × (length after ≤ MAX_NODES) → cafter ≡ cnow ++ one_told choice.1
          → KeepsChoosing choices last before cbefore (index + 1) (child + 1) after cafter
      KeepsChoosing-more cafter g t =
          let es = branch in
          let is' : after ≡ now ++ es = g.0 ∙ ap (λ i. now ++ one (length now) (length cnow) i choice.1) h.counted in
          let size : length after ≡ length now + length es = ap length is' ∙ length-append now es in
          let size_told : length cafter ≡ length cnow + length (one_told choice.1) = ap length t ∙ length-append cnow (one_told choice.1) in
          let rest = drop (index + 1) choices in
          record {
            counted = omega (arith, h.counted);
            done = h.done ++ es;
            told = h.told ++ one_told choice.1;
            some = omega (arith, h.some, length-append h.done es, some_one (length now) (length cnow) index choice.1);
            now_is = is' ∙ (ap (λ xs. xs ++ es) h.now_is ∙ append_assoc before h.done es);
            told_is = t ∙ (ap (λ xs. xs ++ one_told choice.1) h.told_is ∙ append_assoc cbefore h.told (one_told choice.1));
            small = g.1;
            all = splitc ∙ (sym (append_assoc h.done es (cases (length now + length es) (length cnow + length (one_told choice.1)) (index + 1) rest last))
                ∙ (ap (λ m. h.done ++ es ++ cases m (length cnow + length (one_told choice.1)) (index + 1) rest last) (sym size)
                ∙ ap (λ m. h.done ++ es ++ cases (length after) m (index + 1) rest last) (sym size_told)));
            all_told = splitc_told ∙ sym (append_assoc h.told (one_told choice.1) (cases_told rest last));
          }

      pub KeepsChoosing-stop : (fault : OutlineFault) → HasGrown now (one (length now) (length cnow) child choice.1) after (Err fault) → HasGrown before (cases (length before) (length cbefore) 0 choices last) after (Err fault)
      KeepsChoosing-stop TooMany f =
          let es = branch in
          let rest = cases (length now + length es) (length cnow + length (one_told choice.1)) (index + 1) (drop (index + 1) choices) last in
          let same : length (one (length now) (length cnow) child choice.1) ≡ length es = ap (λ i. length (one (length now) (length cnow) i choice.1)) h.counted in
          omega (arith, f, same, ap length splitc, length-append h.done (es ++ rest), length-append es rest, ap length h.now_is, length-append before h.done)
      KeepsChoosing-stop Memory f = tt

    pub KeepsChoosing-room : child ≤ MAX_NODES
    KeepsChoosing-room = omega (arith, h.counted, h.some, h.small, ap length h.now_is, length-append before h.done)

    -- the last branch
    pub KeepsChoosing-last : length choices ≤ index → (r : Result (Unit {0}) OutlineFault) → HasGrown now (one (length now) (length cnow) child last) after r → HasGrown before (cases (length before) (length cbefore) 0 choices last) after r
    KeepsChoosing-last past r g =
        let es = one (length now) (length cnow) index last in
        let is : cases (length before) (length cbefore) 0 choices last ≡ h.done ++ es = h.all ∙ ap (λ cs. h.done ++ cases (length now) (length cnow) index cs last) (drop_of_length-le choices past) in
        let same : one (length now) (length cnow) child last ≡ es = ap (λ i. one (length now) (length cnow) i last) h.counted in
        joined r es (cases (length before) (length cbefore) 0 choices last) is (subst (λ (xs : List Entry). HasGrown now xs after r) same g)
      where
        joined : (r : Result (Unit {0}) OutlineFault) (es all : List Entry) → all ≡ h.done ++ es → HasGrown now es after r → HasGrown before all after r
        joined (Ok _) es all is g = (g.0 ∙ (ap (λ xs. xs ++ es) h.now_is ∙ (append_assoc before h.done es ∙ ap (λ xs. before ++ xs) (sym is))), g.1)
        joined (Err TooMany) es all is g = omega (arith, g, ap length is, length-append h.done es, ap length h.now_is, length-append before h.done)
        joined (Err Memory) es all is g = tt

    pub KeepsChoosing-told : length choices ≤ index → (cafter : List Condition) (r : Result (Unit {0}) OutlineFault) → HasAdded cnow (one_told last) cafter r → HasAdded cbefore (cases_told choices last) cafter r
    KeepsChoosing-told past cafter (Ok _) g =
        let is : cases_told choices last ≡ h.told ++ one_told last = h.all_told ∙ ap (λ cs. h.told ++ cases_told cs last) (drop_of_length-le choices past) in
        g ∙ (ap (λ xs. xs ++ one_told last) h.told_is ∙ (append_assoc cbefore h.told (one_told last) ∙ ap (λ xs. cbefore ++ xs) (sym is)))
    KeepsChoosing-told past cafter (Err fault) g = tt

pub nothing_added : (before cs : List Condition) (r : Result (Unit {0}) OutlineFault) → cs ≡ [] → HasAdded before cs before r
nothing_added before cs (Ok _) is = sym (append-nil before) ∙ ap (λ xs. before ++ xs) (sym is)
nothing_added before cs (Err fault) is = tt

-- the same under a head and with nodes below that are the same
pub grown_as : (before after : List Entry) (r : Result (Unit {0}) OutlineFault) (h k : Head) (n u i : ℕ) (xs es : List Entry) → h ≡ k → xs ≡ es → HasGrown before (topped h n u i xs) after r → HasGrown before (topped k n u i es) after r
grown_as before after r h k n u i xs es heads below g =
    subst (λ (y : Head). HasGrown before (topped y n u i es) after r) heads (subst (λ (ys : List Entry). HasGrown before (topped h n u i ys) after r) below g)
