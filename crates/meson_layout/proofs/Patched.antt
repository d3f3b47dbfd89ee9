-- The splices of pieces give the text of the new items.
use Rattle.std.proofs.Common.{◌≡◌, ℕ, ◌+◌, List, [], ◌∷◌, ◌++◌, length, Ok, refl, sym, ap, ◌∙◌, append_assoc}
use Rattle.std.proofs.lemmas.List.{length-append}
use Rattle.meson_lex.specs.Items.{joined}
use Rattle.meson_lex.proofs.Seams.{joined-append}
use Rattle.meson_splice.specs.declared.splice.Splice.{Splice}
use Rattle.meson_splice.specs.Patch.{patched, then_ok}
use Rattle.meson_splice.proofs.Inverses.{patched-means-patches}
use Rattle.meson_layout.specs.Pieces.{Piece, Keep, Change, splices}
use Rattle.meson_layout.specs.inside.Pieces.{old_items, new_items}
use Rattle.meson_layout.specs.Edited.{patched_by}

regroup : (p x y : List ℕ) → p ++ (x ++ y) ≡ (p ++ x) ++ y
regroup p x y = sym (append_assoc p x y)

-- where `p` stands before the pieces
patched-from : (file p : List ℕ) (ps : List Piece) (at : ℕ) → at ≡ length p → patched_by (p ++ joined (old_items ps)) (splices file at ps) ≡ Ok (p ++ joined (new_items ps))
patched-from file p [] at e = refl
patched-from file p (Keep xs ∷ ps) at e =
    let size : at + length (joined xs) ≡ length (p ++ joined xs) = ap (λ n. n + length (joined xs)) e ∙ sym (length-append p (joined xs)) in
    ap (λ b. patched_by b (splices file (at + length (joined xs)) ps)) (ap (λ l. p ++ l) (joined-append xs (old_items ps)) ∙ regroup p (joined xs) (joined (old_items ps)))
    ∙ patched-from file (p ++ joined xs) ps (at + length (joined xs)) size
    ∙ ap Ok (sym (ap (λ l. p ++ l) (joined-append xs (new_items ps)) ∙ regroup p (joined xs) (joined (new_items ps))))
patched-from file p (Change was now ∷ ps) at e =
    let s : Splice = record { file = file; at = at; was = joined was; now = joined now } in
    let b = p ++ joined (was ++ old_items ps) in
    let c = (p ++ joined now) ++ joined (old_items ps) in
    let size : at + length (joined now) ≡ length (p ++ joined now) = ap (λ n. n + length (joined now)) e ∙ sym (length-append p (joined now)) in
    let one : patched b s ≡ Ok c = (patched-means-patches b s c).1 (record {
      p = p;
      q = joined (old_items ps);
      before = ap (λ l. p ++ l) (joined-append was (old_items ps)) ∙ regroup p (joined was) (joined (old_items ps));
      place = sym e;
      after = refl;
    }) in
    ap (λ r. then_ok r (λ next. patched_by next (splices file (at + length (joined now)) ps))) one
    ∙ patched-from file (p ++ joined now) ps (at + length (joined now)) size
    ∙ ap Ok (sym (ap (λ l. p ++ l) (joined-append now (new_items ps)) ∙ regroup p (joined now) (joined (new_items ps))))

pub patched-pieces : (file source : List ℕ) (ps : List Piece) → joined (old_items ps) ≡ source → patched_by source (splices file 0 ps) ≡ Ok (joined (new_items ps))
patched-pieces file source ps e = ap (λ b. patched_by b (splices file 0 ps)) (sym e) ∙ patched-from file [] ps 0 refl
