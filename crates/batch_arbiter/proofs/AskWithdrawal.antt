-- The asks of a batch leave the lines of all resources in turn.
use Rattle.std.proofs.Common.{ℕ, ◌≡◌, ◌+◌, ◌<◌, ◌≤◌, List, [], ◌∷◌, ◌++◌, length, get_or, take, drop, sym, ap, ◌∙◌, arith, map, set}
use Rattle.std.{specs.Prelude.sum_by, proofs.lemmas.List.length-append, proofs.lemmas.List.length-map, proofs.lemmas.List.length-drop, proofs.lemmas.List.length-take-le, proofs.lemmas.List.drop_more, proofs.lemmas.List.take_at, proofs.lemmas.List.drop_at, proofs.lemmas.List.map_more, proofs.lemmas.List.get_or_at, proofs.lemmas.List.set_at, proofs.lemmas.List.append_assoc, proofs.lemmas.List.Sums.sum_by_more}
use Rattle.batch_arbiter.{specs.Allocation.Claim, specs.Allocation.asks_of, specs.Linked.Lists, specs.Linked.list_at, specs.Linked.with_list, specs.Standing.pool_seen, proofs.ListWithdrawal.staying}

-- the pool when so many of the lines behind the first n lists have been gone through
abbrev pub withdrawn_to : ℕ → ℕ → ℕ → Lists → Lists
withdrawn_to n batch i p =
    record {
      lists = (take n p.lists ++ map (staying batch) (take i (drop n p.lists))) ++ drop i (drop n p.lists);
      room = p.room + sum_by (asks_of batch) (take i (drop n p.lists));
    }

module _ (n batch i : ℕ) (p : Lists) (twice : length p.lists ≡ n + n) (within : i ≤ n) where
  line_count : length (drop n p.lists) ≡ n
  line_count = omega (arith, length-drop n p.lists)

  front : length (take n p.lists ++ map (staying batch) (take i (drop n p.lists))) ≡ n + i
  front =
      length-append (take n p.lists) (map (staying batch) (take i (drop n p.lists)))
      ∙ omega (arith, length-take-le n p.lists (omega (arith, twice)), length-map (take i (drop n p.lists)) (staying batch), length-take-le i (drop n p.lists) (omega (arith, line_count)))

  module _ (lt : i < n) where
    rest : drop i (drop n p.lists) ≡ get_or (drop n p.lists) i [] ∷ drop (i + 1) (drop n p.lists)
    rest = drop_more (drop n p.lists) i [] (omega (arith, line_count))

    at_line : list_at (withdrawn_to n batch i p) (n + i) ≡ get_or (drop n p.lists) i []
    at_line =
        ap (λ xs. get_or ((take n p.lists ++ map (staying batch) (take i (drop n p.lists))) ++ xs) (n + i) []) rest
        ∙ get_or_at (take n p.lists ++ map (staying batch) (take i (drop n p.lists))) (get_or (drop n p.lists) i []) (drop (i + 1) (drop n p.lists)) [] (n + i) front

    pub line-now : (q : Lists) → q ≡ withdrawn_to n batch i p → list_at q (n + i) ≡ get_or (drop n p.lists) i []
    line-now q now = ap (λ (x : Lists). list_at x (n + i)) now ∙ at_line

    -- one line more
    pub withdrawn-more : (q : Lists) → q ≡ withdrawn_to n batch i p
        → with_list q (n + i) (staying batch (list_at q (n + i))) (q.room + asks_of batch (list_at q (n + i))) ≡ withdrawn_to n batch (i + 1) p
    withdrawn-more q now =
        let lists : set (withdrawn_to n batch i p).lists (n + i) (staying batch (get_or (drop n p.lists) i [])) ≡ (withdrawn_to n batch (i + 1) p).lists =
        ap (λ xs. set ((take n p.lists ++ map (staying batch) (take i (drop n p.lists))) ++ xs) (n + i) (staying batch (get_or (drop n p.lists) i []))) rest
        ∙ set_at (take n p.lists ++ map (staying batch) (take i (drop n p.lists))) (get_or (drop n p.lists) i []) (drop (i + 1) (drop n p.lists)) (staying batch (get_or (drop n p.lists) i [])) (n + i) front
        ∙ push_front (take n p.lists) (map (staying batch) (take i (drop n p.lists))) (drop (i + 1) (drop n p.lists)) (staying batch (get_or (drop n p.lists) i []))
        ∙ ap (λ xs. (take n p.lists ++ xs) ++ drop (i + 1) (drop n p.lists)) (sym (map_more (staying batch) (drop n p.lists) i [] (omega (arith, line_count)))) in
        let more : sum_by (asks_of batch) (take (i + 1) (drop n p.lists)) ≡ sum_by (asks_of batch) (take i (drop n p.lists)) + asks_of batch (get_or (drop n p.lists) i []) =
        sum_by_more (asks_of batch) (drop n p.lists) i [] (omega (arith, line_count)) in
        let room : p.room + sum_by (asks_of batch) (take i (drop n p.lists)) + asks_of batch (get_or (drop n p.lists) i []) ≡ p.room + sum_by (asks_of batch) (take (i + 1) (drop n p.lists)) = omega (arith, more) in
        ap (λ x. with_list x (n + i) (staying batch (list_at x (n + i))) (x.room + asks_of batch (list_at x (n + i)))) now
        ∙ ap (λ cs. with_list (withdrawn_to n batch i p) (n + i) (staying batch cs) ((withdrawn_to n batch i p).room + asks_of batch cs)) at_line
        ∙ ap (λ ls. record { lists = ls; room = p.room + sum_by (asks_of batch) (take i (drop n p.lists)) + asks_of batch (get_or (drop n p.lists) i []) }) lists
        ∙ ap (λ m. record { lists = (withdrawn_to n batch (i + 1) p).lists; room = m }) room
      where
        push_front : (xs ys zs : List (List Claim)) (y : List Claim) → (xs ++ ys) ++ y ∷ zs ≡ (xs ++ (ys ++ y ∷ [])) ++ zs
        push_front xs ys zs y = sym (append_assoc (xs ++ ys) (y ∷ []) zs) ∙ ap (λ ws. ws ++ zs) (append_assoc xs ys (y ∷ []))

-- shares and lines that stand one after the other
sides : (capacities : List ℕ) (shares lines : List (List Claim)) (room : ℕ) → length shares ≡ length capacities
    → pool_seen capacities (record { lists = shares ++ lines; room = room }) ≡ record { capacities = capacities; shares = shares; lines = lines; room = room }
sides capacities shares lines room e = grind (arith, take_at shares lines (length capacities) e, drop_at shares lines (length capacities) e)
