use Rattle.std.proofs.Common.{◌≡◌, ◌+◌, ◌≤◌, ◌<◌, ◌++◌, [], codes, ℕ, List, Some, get_or, slice_get, length, drop, map, refl, sym, ap, ◌∙◌, append_assoc, rules}
use Rattle.std.{specs.Prelude.option_map, specs.List.zip, proofs.KnownBytes.Appends-nil, proofs.KnownBytes.Appends-trans, proofs.lemmas.List.length-map, proofs.lemmas.Option.slice_get-get_or, proofs.lemmas.Option.slice_get-map, proofs.lemmas.Result.err_from_is_err_and}
use Rattle.batch_engine.specs.Names.{resource_name}
use Rattle.batch_wire.{specs.Pieces.roles_text, specs.RecordText.role_text, proofs.WrittenPairs.next_pair, proofs.WrittenPairs.all_names, proofs.WrittenPairs.all_others, proofs.WrittenTexts.then_beginning}
use Rattle.batch_wire.proofs.record_line.write_bound.Goals as goal

-- the item at a number in a list that is made of another
made_at : {A B : Type 0} (f : A → B) (xs : List A) (i : ℕ) (x : A) (y : B) → i < length xs → x ≡ get_or xs i x → y ≡ f x → slice_get (map f xs) i ≡ Some y
made_at f xs i x y within at is = slice_get-map f xs i ∙ ap (option_map f) (slice_get-get_or xs i x within ∙ ap Some (sym at)) ∙ ap Some (sym is)

beside : (f : ℕ → List ℕ) (xs : List ℕ) (i : ℕ) (y : List ℕ) → i < length xs → y ≡ f (get_or xs i 0) → slice_get (map f xs) i ≡ Some y
beside f xs i y within is = slice_get-map f xs i ∙ ap (option_map f) (slice_get-get_or xs i 0 within) ∙ ap Some (sym is)

pub loop-i-init : goal.loop-i-init
loop-i-init g c = record { done = []; split = refl; written = Appends-nil _ }

pub returns-in_err-write_role-in-Some : goal.returns-in_err-write_role-in-Some
returns-in_err-write_role-in-Some g c =
    let p = err_from_is_err_and c.from_residual.result c.from_residual.ensures.1 in
    let kept = c.loop-i.invariant in
    let roles = c.args.roles.now in
    let names = map (λ role. role.name) roles in
    let units = map (resource_name c.args.cleared.now) c.args.units in
    let i = c.loop-i.i in
    let name = c.as_bytes.result.now in
    let unit = c.resource_name-unit.result.now in
    let here : i < length roles = search rules in
    let within : i < length c.args.units = search rules in
    let at : slice_get names i ≡ Some name = made_at (λ role. role.name) roles i c.in-Some.role.now name here c.in-Some.ensures.lookup.1 (c.as_bytes.ensures.value ∙ c.text.ensures.value) in
    let by : slice_get units i ≡ Some unit = beside (resource_name c.args.cleared.now) c.args.units i unit within c.resource_name-unit.ensures in
    rw (p.1, next_pair role_text (roles_text (zip names units)) kept.done names units i name unit kept.split at by)
    (then_beginning _ _ _ kept.done (codes " " ++ role_text (name, unit)) (roles_text (zip (drop (i + 1) names) (drop (i + 1) units)))
    kept.written c.in_err-write_role-in-Some.ensures)

pub loop-i-preserved : goal.loop-i-preserved
loop-i-preserved g c =
    let kept = c.loop-i.invariant in
    let roles = c.args.roles.now in
    let names = map (λ role. role.name) roles in
    let units = map (resource_name c.args.cleared.now) c.args.units in
    let i = c.loop-i.i in
    let name = c.as_bytes.result.now in
    let unit = c.resource_name-unit.result.now in
    let here : i < length roles = search rules in
    let within : i < length c.args.units = search rules in
    let at : slice_get names i ≡ Some name = made_at (λ role. role.name) roles i c.in-Some.role.now name here c.in-Some.ensures.lookup.1 (c.as_bytes.ensures.value ∙ c.text.ensures.value) in
    let by : slice_get units i ≡ Some unit = beside (resource_name c.args.cleared.now) c.args.units i unit within c.resource_name-unit.ensures in
    let text = codes " " ++ role_text (name, unit) in
    record {
      done = kept.done ++ text;
      split = next_pair role_text (roles_text (zip names units)) kept.done names units i name unit kept.split at by
          ∙ sym (append_assoc kept.done text (roles_text (zip (drop (i + 1) names) (drop (i + 1) units))));
      written = Appends-trans _ _ _ kept.done text kept.written c.in_ok-write_role-in-Some.ensures;
    }

pub returns-after-loop-i : goal.returns-after-loop-i
returns-after-loop-i g c =
    let kept = c.loop-i.invariant in
    let names = map (λ role. role.name) c.args.roles.now in
    let units = map (resource_name c.args.cleared.now) c.args.units in
    let past : length units ≤ c.loop-i.i = rw length-map (search rules) in
    rw (all_others role_text (roles_text (zip names units)) kept.done names units c.loop-i.i kept.split past) kept.written

pub returns-in-None : goal.returns-in-None
returns-in-None g c =
    let kept = c.loop-i.invariant in
    let names = map (λ role. role.name) c.args.roles.now in
    let units = map (resource_name c.args.cleared.now) c.args.units in
    let past : length names ≤ c.loop-i.i = rw length-map (search rules) in
    rw (all_names role_text (roles_text (zip names units)) kept.done names units c.loop-i.i kept.split past) kept.written
