-- Names that are put into a list by the code, one after another.
use Rattle.meson_steps.specs.OrderedLists.{IsOrderedList, Ordered, all_put, point_in, put_one, put_steps}
use Rattle.meson_steps.specs.declared.ordered_list.OrderedList.{OrderedList}
use Rattle.meson_sources.specs.Sorting.{added_text}
use Rattle.meson_sources.proofs.Words.{add-one, ap, append-nil, append_assoc, at_drop_all, arith, drop, drop-cons, get_or, length, List, map, map-append, Some, sym, ℕ, ◌++◌, ◌+◌, ◌<◌, ◌∙◌, ◌∷◌, ◌≡◌, ◌≤◌}
use Rattle.meson_sources.proofs.Words.{CallRef, ListStep, bare}

module _ {X : Type 0} (text : X → List ℕ) where
  -- so many of the names are in the list, which is as it was with them
  pub record Put (list : CallRef) (o : Ordered) (into : OrderedList) (steps : List ListStep) (names : List X) (i : ℕ) : Type 0 where
    pub now : Ordered
    pub is : IsOrderedList into now
    pub from : now.from ≡ o.from
    pub end : now.end ≡ o.end + i
    pub left : map Some steps ++ map bare (all_put list now (map added_text (map text (drop i names)))) ≡ map bare (all_put list o (map added_text (map text names)))

  -- the next one is put there
  pub next_put : (list : CallRef) (o : Ordered) (into after : OrderedList) (steps more : List ListStep) (names : List X) (i : ℕ) (x : X) → i < length names → x ≡ get_or names i x → (p : Put list o into steps names i)
      → (let a = added_text (text x) in IsOrderedList after (put_one p.now (point_in p.now a.key) a.key a.written))
      → (let a = added_text (text x) in map Some more ≡ map Some steps ++ map bare (put_steps list p.now (point_in p.now a.key) a.written))
      → Put list o after more names (i + 1)
  next_put list o into after steps more names i x within is_x p is added =
      let a = added_text (text x) in
      let next = put_one p.now (point_in p.now a.key) a.key a.written in
      let here = put_steps list p.now (point_in p.now a.key) a.written in
      let later = all_put list next (map added_text (map text (drop (i + 1) names))) in
      let end = p.end in
      let names_are : drop i names ≡ x ∷ drop (i + 1) names =
      drop-cons names i x within ∙ ap (λ k. get_or names i x ∷ drop k names) (sym (add-one i)) ∙ ap (λ y. y ∷ drop (i + 1) names) (sym is_x) in
      record {
        now = next;
        is = is;
        from = p.from;
        end = omega (arith, end);
        left =
            ap (λ l. l ++ map bare later) added ∙ append_assoc (map Some steps) (map bare here) (map bare later) ∙ ap (λ l. map Some steps ++ l) (sym (map-append bare here later))
            ∙ ap (λ ns. map Some steps ++ map bare (all_put list p.now (map added_text (map text ns)))) (sym names_are) ∙ p.left;
      }

  -- all are there
  pub all_there : (list : CallRef) (o : Ordered) (into : OrderedList) (steps : List ListStep) (names : List X) (i : ℕ) → length names ≤ i → Put list o into steps names i
      → map Some steps ≡ map bare (all_put list o (map added_text (map text names)))
  all_there list o into steps names i past p =
      sym (append-nil (map Some steps)) ∙ ap (λ l. map Some steps ++ l) (sym (at_drop_all (λ ns. map bare (all_put list p.now (map added_text (map text ns)))) names i past)) ∙ p.left
