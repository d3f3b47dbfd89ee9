-- What a text reads as, as one list, is read.
use Rattle.std.proofs.Common.{◌≡◌, ℕ, ◌+◌, Bool, true, false, List, [], ◌∷◌, ◌++◌, length, Some, refl, sym, ap, subst, ◌∙◌, length-append, arith, rules}
use Rattle.std.specs.Prelude.{◌==◌, ◌&&◌}
use Rattle.meson_lex.specs.declared.kinds.Span.{Span}
use Rattle.meson_lex.specs.Items.{Lexeme, joined, IsItemList}
use Rattle.meson_lex.specs.Significant.{Word, Role, Gap, Ends, Opens, Closes, Other, role, State, start, step, after, emitted, ends_line, only_if}
use Rattle.meson_lex.specs.Located.{line_end_at, token_at, spot_by, end_by, spots, end_after, closing_at, located}
use Rattle.meson_lex.proofs.OneList.{one_list}
use Rattle.meson_lex.proofs.TokenWords.{words-spots}
use Rattle.meson_syntax.specs.declared.operator.Bracket.{Bracket}
use Rattle.meson_syntax.specs.Operators.{opens, closes}
use Rattle.meson_syntax.specs.Tree.{Nowhere, Listing, erase_listing}
use Rattle.meson_syntax.specs.Grammar.{mark, listing_words}
use Rattle.meson_syntax.specs.inside.Input.{Input, sees}
use Rattle.meson_syntax.specs.Spelling.{end_of, Covers, SpellsListing}
use Rattle.meson_syntax.specs.Paths.{list_span, inner_words}
use Rattle.meson_lex.specs.Words.{spoken}
use Rattle.meson_syntax.specs.ReadsList.{IsListText, ReadsListWithin, list_items}
use Rattle.meson_syntax.specs.inside.ReadingLists.{bracketed, list_read, whole_list}
use Rattle.meson_syntax.proofs.parsing.Steps.{Passes, end_of-append}
use Rattle.meson_syntax.proofs.parsing.Splits.{yes-at, yes-sees}
use Rattle.meson_syntax.proofs.parsing.Firsts.{first-listing}
use Rattle.meson_syntax.proofs.parsing.CompleteRows.{complete-listed}
use Rattle.meson_syntax.proofs.parsing.Placing.{place-listing}
use Rattle.meson_syntax.proofs.places.Covers.{listing-covers, covers-from, covers-end}
use Rattle.meson_syntax.proofs.lists.Brackets.{open-bracket, close-bracket}
use Rattle.meson_syntax.proofs.lists.Nesting.{nest, inner-flat, opens-role, closes-role}
use Rattle.meson_syntax.proofs.lists.Items.{list-emitted}
use Rattle.meson_syntax.proofs.lists.Cuts.{listing-inner}

-- ---- where the tokens of items end

end-by : (r : Role) (s : State) (x : Lexeme) (e p : ℕ) → end_of e (spot_by r s x e p) ≡ end_by r x e p
end-by Gap s x e p = refl
end-by Ends s x e p = line (ends_line s.depth s.fresh) where
  line : (b : Bool) → end_of e (only_if b (line_end_at e)) ≡ e
  line true = refl
  line false = refl
end-by Opens s x e p = refl
end-by Closes s x e p = refl
end-by Other s x e p = refl

end-spots : (s : State) (e p : ℕ) (xs : List Lexeme) → end_of e (spots s e p xs) ≡ end_after e p xs
end-spots s e p [] = refl
end-spots s e p (x ∷ xs) =
    let front = spot_by (role x.kind) s x e p in
    let back = spots (step s x) (end_by (role x.kind) x e p) (p + length x.text) xs in
    end_of-append e front back ∙ ap (λ n. end_of n back) (end-by (role x.kind) s x e p) ∙ end-spots (step s x) (end_by (role x.kind) x e p) (p + length x.text) xs

closes-end : (r : Role) (x : Lexeme) (e p : ℕ) → r ≡ Closes → end_by r x e p ≡ p + length x.text
closes-end r x e p is = rw is refl

pub last-end : (e p : ℕ) (xs : List Lexeme) (c : Lexeme) → role c.kind ≡ Closes → end_after e p (xs ++ c ∷ []) ≡ p + length (joined (xs ++ c ∷ []))
last-end e p [] c is = let n = length-append c.text [] in let z : length {A = ℕ} [] ≡ 0 = refl in closes-end (role c.kind) c e p is ∙ omega arith
last-end e p (x ∷ xs) c is =
    let n = length-append x.text (joined (xs ++ c ∷ [])) in
    last-end (end_by (role x.kind) x e p) (p + length x.text) xs c is ∙ omega arith

opens-first : (o : Lexeme) (rest : List Lexeme) → role o.kind ≡ Opens → spots start 0 0 (o ∷ rest) ≡ token_at o 0 ∷ spots (step start o) (end_by (role o.kind) o 0 0) (0 + length o.text) rest
opens-first o rest is = ap (λ r. spot_by r start o 0 0 ++ spots (step start o) (end_by (role o.kind) o 0 0) (0 + length o.text) rest) is

covers-yes : (a n m : ℕ) → a ≡ 0 → n ≡ m → ((a == 0) && (n == m)) ≡ true
covers-yes a n m e f = search rules

-- what covers all tokens of a list's text goes from its begin to its end
pub whole-span : (source : List ℕ) (b : Bracket) (words : List Word) (t : IsListText source b words) (s : Span) → Covers s (spots start 0 0 (list_items t)) → (s.from ≡ 0) × (s.to ≡ length source)
whole-span source b words t s cover =
    let o = t.open_item in
    let c = t.close_item in
    let own = list_items t in
    let used = spots start 0 0 own in
    let rest = t.inner ++ c ∷ [] in
    let first = opens-first o rest (ap role t.is_open ∙ opens-role b) in
    let n = last-end 0 0 (o ∷ t.inner) c (ap role t.is_close ∙ closes-role b) in
    let m = ap length t.are_items.joins in
    let last = covers-end s used cover ∙ end-spots start 0 0 own in
    (covers-from s used (token_at o 0) (spots (step start o) (end_by (role o.kind) o 0 0) (0 + length o.text) rest) cover first, omega arith)

-- ---- the list is read

pub whole_list-complete : (source : List ℕ) (items : List Lexeme) → IsItemList source items → (depth : ℕ) (b : Bracket) (p : Listing Nowhere) → ReadsListWithin depth b source p
    → (l : Listing Span) × (erase_listing l ≡ p) × (whole_list depth b (length source) (located items) ≡ Some l)
unfolding whole_list bracketed
whole_list-complete source items are depth b p r =
    let t = r.text in
    let o = t.open_item in
    let c = t.close_item in
    let own = list_items t in
    let is : own ≡ items = one_list source own items t.are_items are in
    let flat : nest 0 (spoken t.inner) ≡ Some 0 = ap (nest 0) t.is_inner ∙ inner-flat Nowhere p in
    let told : emitted start own ≡ listing_words p b =
    list-emitted (opens b) (closes b) (open-bracket b) (close-bracket b) t.inner o c t.is_open t.is_close flat start []
    ∙ ap (λ w. mark (opens b) ++ (w ++ mark (closes b))) t.is_inner ∙ sym (listing-inner p b) in
    let used = spots start 0 0 items in
    let placed = place-listing p b depth used r.level r.depth (words-spots items start 0 0 ∙ ap (emitted start) (sym is) ∙ told) in
    let l = placed.0 in
    let i : Input = record { last = 0; rest = located items } in
    let j : Input = record { last = end_of 0 used; rest = closing_at (after start items).fresh (end_after 0 0 items) } in
    let passes : Passes (SpellsListing l b depth) i j = record { used = used; fits = placed.2; took = record { rest = refl; last = refl } } in
    let read = complete-listed depth l b i j passes in
    let begins = yes-sees (opens b) i (first-listing l b depth i j passes) in
    let cover = listing-covers l b depth used placed.2 in
    let whole = whole-span source b (inner_words p) t (list_span l) (subst (λ xs. Covers (list_span l) (spots start 0 0 xs)) (sym is) cover) in (
      l,
      placed.1,
      ap (list_read (length source)) (yes-at (sees (opens b) i) _ _ i _ begins read)
          ∙ rw (covers-yes (list_span l).from (list_span l).to (length source) whole.0 whole.1) refl,
    )
