-- The nodes that were looked at so far are clear for all bindings.
use Rattle.std.proofs.Common.{◌≡◌, ◌⊎◌, ℕ, ◌+◌, ◌<◌, ◌≤◌, List, [], ◌∷◌, ◌++◌, length, get_or, slice_get, true, Option, Some, None, Result, Ok, inl, inr, refl, sym, ap, subst, arith}
use Rattle.std.proofs.lemmas.{Bool.cases_lt, List.get_or_past, List.length-append, Option.get_or_from_slice_get, Option.slice_get-get_or}
use Rattle.batch_cell.specs.declared.cell.Cell as equipment
use Rattle.batch_recipe.specs.{Expanding.Binding, Expanding.Sites, Outlines.act_of_kind, Procedure.sites, declared.act.Act.Act, declared.entry.Entry.Entry, declared.recipe.Recipe.Recipe, declared.role.Role.Role}
use Rattle.batch_model.specs.Cleared.{Level, Ranking}
use Rattle.batch_set.specs.{Linking.IsLinkedIn, Looked.needs_by, declared.linked.LinkedNeed.LinkedNeed, declared.linked.LinkedRecipe.LinkedRecipe}
use Rattle.batch_verify.{specs.Asking.asks_by, specs.Asking.ranks_along, specs.Bindings.takers_of, specs.Charts.AreFaults, specs.Refusals.ranking_in, specs.Spans.AreBetween, specs.Spans.IsPassed, specs.Spans.IsWithin, specs.Spans.no_span, specs.Walking.IsEntered, specs.Walking.kept, specs.Walking.last_rank, specs.Walking.no_path, specs.declared.rule.Rule.Rule, specs.declared.site.Path.Path, specs.declared.span.Span.Span, proofs.AsksByName.rise-is, proofs.AsksByName.says-asks, proofs.ActChecks.entered, proofs.Faults.one_more, proofs.Paths.IsNumber, proofs.Paths.KeepsPaths, proofs.Paths.KeepsPaths-more, proofs.Paths.Looked, proofs.Paths.fault_known, proofs.Paths.looked, proofs.Spans.number_of, proofs.Spans.unit_offers}

module _ (c : equipment.Cell) (ranks : Option (List ℕ)) (r : Recipe) (linked : LinkedRecipe) (lowest highest : List (Option ℕ)) where
  abbrev ranking : Option Ranking
  ranking = ranking_in c ranks

  abbrev roles : List Role
  roles = r.roles.items

  abbrev takers : Binding → List (Option ℕ)
  takers bound = takers_of c bound roles

  -- there are paths for the binding, each within the span for all bindings
  pub record Covers (bound : Binding) (spans : List Span) (n : ℕ) : Type 0 where
    pub paths : List Path
    pub kept : KeepsPaths c ranking bound r paths n
    pub within : (k : ℕ) (s : Span) (p : Path) → slice_get spans k ≡ Some s → slice_get paths k ≡ Some p → IsWithin c (takers bound) s p

  pub record Clears (spans : List Span) (n : ℕ) : Type 0 where
    pub size : length spans ≡ n
    pub covers : (bound : Binding) → AreBetween c ranks roles lowest (takers bound) highest → Covers bound spans n

  pub Clears-none : Clears [] 0
  Clears-none = record {
    size = refl;
    covers = λ bound between. record {
      paths = [];
      kept = record { size = refl; numbers = λ k p is. absurd cc; runs = λ k w x p w_is x_is is. absurd cc; meet = λ recipes k x lt is. absurd (omega (arith, lt)) };
      within = λ k s p is p_is. absurd cc;
    };
  }

  module _ (is_linked : IsLinkedIn c r linked) (faults : List (Option Rule)) (all : AreFaults r.acts faults) (spans : List Span) (n : ℕ) (h : Clears spans n)
      (e : Entry) (is : slice_get r.outline.entries.items n ≡ Some e) (s : Span) (some : (o : Span) → slice_get spans e.parent ≡ Some o → s ≡ o) (none : length spans ≤ e.parent → s ≡ no_span)
      (fault : Option Rule) (fault_is : slice_get faults n ≡ Some fault) (whole : fault ≡ None) (q : Span)
      (passed : (a : Act) → act_of_kind r.acts e.kind ≡ Some a → IsPassed c ranks roles lowest highest (needs_by linked e.kind) a s q) (keeps : act_of_kind r.acts e.kind ≡ None → q ≡ s) where
    module _ (bound : Binding) (between : AreBetween c ranks roles lowest (takers bound) highest) where
      v : Covers bound spans n
      v = h.covers bound between

      abbrev p : Path
      p = get_or v.paths e.parent no_path

      some_path : (o : Path) → slice_get v.paths e.parent ≡ Some o → p ≡ o
      some_path o at = get_or_from_slice_get v.paths e.parent o no_path at

      no_path_there : length v.paths ≤ e.parent → p ≡ no_path
      no_path_there past = get_or_past v.paths e.parent no_path past

      above_within : IsWithin c (takers bound) s p
      above_within = go (cases_lt e.parent n)
        where
          go : (e.parent < n) ⊎ (n ≤ e.parent) → IsWithin c (takers bound) s p
          go (inl lt) =
              let s_is = slice_get-get_or spans e.parent no_span (omega (arith, lt, h.size)) in
              subst (λ (o : Span). IsWithin c (takers bound) o p) (sym (some (get_or spans e.parent no_span) s_is))
              (v.within e.parent (get_or spans e.parent no_span) p s_is (slice_get-get_or v.paths e.parent no_path (omega (arith, lt, v.kept.size))))
          go (inr past) =
              subst (λ (o : Span). IsWithin c (takers bound) o p) (sym (none (omega (arith, past, h.size))))
              (subst (λ (o : Path). IsWithin c (takers bound) no_span o) (sym (no_path_there (omega (arith, past, v.kept.size)))) (refl, tt))

      abbrev LookedSo : Result Path Rule → Type 0
      LookedSo = Looked c ranking bound r v.paths n v.kept e is p some_path no_path_there

      -- the path for this binding below the node
      record GoesOn : Type 0 where
        pub path : Path
        pub looked : LookedSo (Ok path)
        pub number : IsNumber c ranking bound r path
        pub within : IsWithin c (takers bound) q path

      look_is : (o : Path) → ((a : Act) → act_of_kind r.acts e.kind ≡ Some a → (level : Level) → IsEntered c (sites bound r.acts) ranking fault level p a (Ok o))
          → (act_of_kind r.acts e.kind ≡ None → Ok o ≡ kept p fault) → LookedSo (Ok o)
      look_is o =
          looked c ranking bound r v.paths n v.kept e is p some_path no_path_there (Ok o) fault
          (fault_known c ranking bound r v.paths n v.kept e is p some_path no_path_there faults all fault fault_is)

      goes_on : GoesOn
      goes_on = go (act_of_kind r.acts e.kind) refl
        where
          go : (o : Option Act) → act_of_kind r.acts e.kind ≡ o → GoesOn
          go None o_is = record {
            path = p;
            looked = look_is p (λ a a_is. absurd cc) (λ _. ap (kept p) (sym whole));
            number = number_of c ranks roles lowest (takers bound) highest between s.unit p.unit above_within.0;
            within = subst (λ (o : Span). IsWithin c (takers bound) o p) (sym (keeps o_is)) above_within;
          }
          go (Some a) o_is =
              let links : List LinkedNeed = needs_by linked e.kind in
              let pass = passed a o_is in
              let unit = pass.comes (takers bound) between p.unit above_within.0 in
              let asked = pass.asked (takers bound) between p.last above_within.1 in
              let next : Option ℕ = last_rank p.last (ranks_along ranks (asks_by c (takers bound) links)) in
              let on : Sites = sites bound r.acts in
              let e_is = says-asks c r linked is_linked bound e.kind a o_is in
              let rises = rise-is c (takers bound) links on a e_is ranks p.last (Ok next) (asked.rising, refl) in
              let own : (level : Level) → IsEntered c on ranking fault level p a (Ok (record { unit = unit.unit; last = next })) =
              λ level procedure acts recipes on_unit place above kind stands so_far known. entered c on ranking level p a procedure acts recipes on_unit place above kind stands so_far (takers bound) links e_is
              unit.unit unit.is true (sym asked.found) refl true (sym asked.fitting) refl (unit_offers c ranks roles lowest (takers bound) highest between q.unit a.work unit.unit pass.offered unit.comes)
              fault known whole next rises in
              record {
                path = record { unit = unit.unit; last = next };
                looked = look_is (record { unit = unit.unit; last = next })
                    (λ b b_is. let same : a ≡ b = cc in subst (λ (x : Act). (level : Level) → IsEntered c on ranking fault level p x (Ok (record { unit = unit.unit; last = next }))) same own)
                    (λ none_is. absurd cc);
                number = number_of c ranks roles lowest (takers bound) highest between q.unit unit.unit unit.comes;
                within = (unit.comes, asked.ends);
              }

      pub covers_more : Covers bound (spans ++ q ∷ []) (n + 1)
      covers_more =
          let g = goes_on in
          record {
            paths = v.paths ++ g.path ∷ [];
            kept = KeepsPaths-more c ranking bound r v.paths n v.kept e is p some_path no_path_there g.path g.looked g.number;
            within = λ k o t o_is t_is. now g k o t (one_more spans q n k o h.size o_is) (one_more v.paths g.path n k t v.kept.size t_is);
          }
        where
          now : (g : GoesOn) (k : ℕ) (o : Span) (t : Path) → ((k < n) × (slice_get spans k ≡ Some o)) ⊎ ((k ≡ n) × (q ≡ o)) → ((k < n) × (slice_get v.paths k ≡ Some t)) ⊎ ((k ≡ n) × (g.path ≡ t))
              → IsWithin c (takers bound) o t
          now g k o t (inl was) (inl old) = v.within k o t was.1 old.1
          now g k o t (inr new) (inr at) = subst (λ (o' : Span). IsWithin c (takers bound) o' t) new.1 (subst (λ (t' : Path). IsWithin c (takers bound) q t') at.1 g.within)
          now g k o t (inl was) (inr at) = absurd (omega (arith, was.0, at.0))
          now g k o t (inr new) (inl old) = absurd (omega (arith, new.0, old.0))

    pub Clears-more : Clears (spans ++ q ∷ []) (n + 1)
    Clears-more = record { size = omega (arith, length-append spans (q ∷ []), h.size); covers = covers_more }
