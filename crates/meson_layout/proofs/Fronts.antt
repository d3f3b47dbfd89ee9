-- The items of a front of a text, and what is laid out by these alone.
use Rattle.std.proofs.Common.{◌≡◌, ℕ, zero, suc, ◌+◌, ◌-◌, ◌<◌, ◌≤◌, ◌^◌, ◌==◌, List, [], ◌∷◌, ◌++◌, length, take, drop, Result, Ok, Err, refl, sym, ap, ap₂, ◌∙◌, subst, append_assoc, length-take, length-drop, arith}
use Rattle.std.proofs.lemmas.Bool.{cond-false, ne_eqb}
use Rattle.std.proofs.lemmas.List.{append-nil, length-append}
use Rattle.std.proofs.Math.Seq.{take-append_seam}
use Rattle.meson_lex.specs.declared.kinds.Item.{Item}
use Rattle.meson_lex.specs.declared.kinds.Span.{Span}
use Rattle.meson_lex.specs.declared.fault.LexFault.{LexFault}
use Rattle.meson_lex.specs.Items.{Lexeme, joined}
use Rattle.std.specs.Prelude.{slice_range}
use Rattle.meson_lex.specs.Lexed.{Tiles}
use Rattle.meson_layout.specs.declared.primitive.Primitive.{Primitive}
use Rattle.meson_layout.specs.declared.primitive.Primitive.TheVariants.{First, After, Remove, Replace, Wrap, RemoveStatement, Append, Lines}
use Rattle.meson_splice.specs.declared.splice.Splice.{Splice}
use Rattle.meson_layout.specs.Insertion.{first}
use Rattle.meson_layout.specs.Layout.{IsPlaced, IsSpanOf, before_len, layout_of, split_at_span, replaced, wrapped}
use Rattle.meson_layout.specs.inside.Layout.{end_of_look}
use Rattle.meson_layout.specs.Pieces.{as_one, splices}
use Rattle.meson_layout.proofs.Near.{AllGood, good-front}
use Rattle.meson_layout.proofs.Parts.{before-is, parts-are}
use Rattle.meson_layout.proofs.ReadItems.{read, read_one}

abbrev pub up_to : ℕ → List Lexeme → List Lexeme
up_to n xs = take (before_len n xs) xs

-- ---- one turn

up_to-more : (n : ℕ) (x : Lexeme) (xs : List Lexeme) → 0 < n → up_to n (x ∷ xs) ≡ x ∷ up_to (n - length x.text) xs
up_to-more n x xs some =
    let not_none : n ≡ 0 → ⊥ = λ e. omega arith in
    ap (λ k. take k (x ∷ xs)) (cond-false (n == 0) 0 (suc (before_len (n - length x.text) xs)) (ne_eqb n 0 not_none))

up_to-none : (xs : List Lexeme) → up_to 0 xs ≡ []
up_to-none [] = refl
up_to-none (x ∷ xs) = refl

up_to-empty : (n : ℕ) (xs : List Lexeme) → xs ≡ [] → up_to n xs ≡ []
up_to-empty n xs none = ap (up_to n) none

-- all items, where the offset lies behind them
pub up_to-all : (n : ℕ) (xs : List Lexeme) → length (joined xs) < n → up_to n xs ≡ xs
up_to-all n [] all = refl
up_to-all n (x ∷ xs) all =
    let size = length-append x.text (joined xs) in
    up_to-more n x xs (omega arith) ∙ ap (λ ys. x ∷ ys) (up_to-all (n - length x.text) xs (omega arith))

-- ---- the layout

up_to-front : (items a rest : List Lexeme) (n : ℕ) → items ≡ a ++ rest → n ≡ length (joined a) → AllGood a → up_to n items ≡ a
up_to-front items a rest n e size g = ap₂ take (before-is items a rest n e size g) e ∙ take-append_seam a rest

up_to-again : (n : ℕ) (xs : List Lexeme) → up_to n (up_to n xs) ≡ up_to n xs
up_to-again n [] = refl
up_to-again zero (x ∷ xs) = refl
up_to-again (suc n) (x ∷ xs) =
    let once = up_to-more (suc n) x xs (omega arith) in
    ap (up_to (suc n)) once
    ∙ up_to-more (suc n) x (up_to (suc n - length x.text) xs) (omega arith)
    ∙ ap (λ ys. x ∷ ys) (up_to-again (suc n - length x.text) xs)
    ∙ sym once

parts-front : (items : List Lexeme) (s : Span) (f : List Lexeme → List Lexeme → List Splice) → IsSpanOf items s → AllGood items
    → f (split_at_span s (up_to s.to items)).left (split_at_span s (up_to s.to items)).own ≡ f (split_at_span s items).left (split_at_span s items).own
parts-front items s f at g =
    let own = at.first ∷ at.more in
    let whole : items ≡ (at.left ++ own) ++ at.right = at.joins ∙ sym (append_assoc at.left own at.right) in
    let good : AllGood (at.left ++ own) = good-front (at.left ++ own) at.right (subst AllGood whole g) in
    let front : up_to s.to items ≡ at.left ++ own = up_to-front items (at.left ++ own) at.right s.to whole at.to good in
    let ends : up_to s.to items ≡ at.left ++ (own ++ []) = front ∙ ap (λ o. at.left ++ o) (sym (append-nil own)) in
    ap (λ p. f p.left p.own) (parts-are (up_to s.to items) at.left own [] s ends at.from at.to (subst AllGood (sym front) good))
    ∙ sym (ap (λ p. f p.left p.own) (parts-are items at.left own at.right s at.joins at.from at.to g))

-- an edit is laid out by the items that begin before its end
pub laid-by-front : (file : List ℕ) (items : List Lexeme) (p : Primitive) → IsPlaced p items → AllGood items → length (joined items) + 1 < 2 ^ 64
    → layout_of file (up_to (end_of_look p) items) p ≡ layout_of file items p
laid-by-front file items (First bracket new) at g small =
    ap (λ l. splices file 0 (first l [] (as_one new))) (up_to-again (bracket + 1) items)
laid-by-front file items (After element new) at g small = ap (λ xs. layout_of file xs (After element new)) (up_to-all (2 ^ 64 - 1) items (omega arith))
laid-by-front file items (Remove element) at g small = ap (λ xs. layout_of file xs (Remove element)) (up_to-all (2 ^ 64 - 1) items (omega arith))
laid-by-front file items (Replace value new) at g small = parts-front items value (λ left own. splices file 0 (replaced left own [] (as_one new))) at g
laid-by-front file items (Wrap value) at g small = parts-front items value (λ left own. splices file 0 (wrapped left own [])) at g
laid-by-front file items (RemoveStatement statement blank) at g small = ap (λ xs. layout_of file xs (RemoveStatement statement blank)) (up_to-all (2 ^ 64 - 1) items (omega arith))
laid-by-front file items (Append new) at g small = ap (λ xs. layout_of file xs (Append new)) (up_to-all (2 ^ 64 - 1) items (omega arith))
laid-by-front file items (Lines spot new) at g small = ap (λ xs. layout_of file xs (Lines spot new)) (up_to-all (2 ^ 64 - 1) items (omega arith))

-- ---- a turn of the loop that reads them

pub slice-length : (source : List ℕ) (from to : ℕ) → from ≤ to → to ≤ length source → length (slice_range source from to) ≡ to - from
slice-length source from to ordered inside =
    let front = length-take (to - from) (drop from source) in
    let rest = length-drop from source in
    omega arith

-- what was read so far and what is still read before the end are all that is
pub record IsReading (source : List ℕ) (end : ℕ) (whole : List Lexeme) (all : List Lexeme) (results : List (Result Item LexFault)) : Type 0 where
  pub at : ℕ
  pub tiles : Tiles at (length source) results
  pub reads : all ++ up_to (end - at) (read source results) ≡ whole

pub reading-item : (source : List ℕ) (end : ℕ) (whole all : List Lexeme) (last : Lexeme) (x : Item) (results more : List (Result Item LexFault))
    → IsReading source end whole all results → results ≡ Ok x ∷ more → x.span.from < end → last ≡ read_one source x → IsReading source end whole (all ++ last ∷ []) more
reading-item source end whole all last x results more r are before is =
    let t : Tiles r.at (length source) (Ok x ∷ more) = subst (Tiles r.at (length source)) are r.tiles in
    let size : length (slice_range source x.span.from x.span.to) ≡ x.span.to - x.span.from = slice-length source x.span.from x.span.to (let grows = t.1 in omega arith) t.2 in
    let from = t.0 in
    let grows = t.1 in
    let left : (end - r.at) - length (slice_range source x.span.from x.span.to) ≡ end - x.span.to = omega arith in
    record {
      at = x.span.to;
      tiles = t.3;
      reads =
          append_assoc all (last ∷ []) (up_to (end - x.span.to) (read source more))
          ∙ ap (λ y. all ++ y ∷ up_to (end - x.span.to) (read source more)) is
          ∙ ap (λ n. all ++ read_one source x ∷ up_to n (read source more)) (sym left)
          ∙ ap (λ ys. all ++ ys) (sym (up_to-more (end - r.at) (read_one source x) (read source more) (omega arith)))
          ∙ ap (λ rs. all ++ up_to (end - r.at) (read source rs)) (sym are)
          ∙ r.reads;
    }

pub reading-fault : (source : List ℕ) (end : ℕ) (whole all : List Lexeme) (f : LexFault) (results more : List (Result Item LexFault))
    → IsReading source end whole all results → results ≡ Err f ∷ more → IsReading source end whole all more
reading-fault source end whole all f results more r are =
    let t : Tiles r.at (length source) (Err f ∷ more) = subst (Tiles r.at (length source)) are r.tiles in
    record {
      at = length source;
      tiles = subst (Tiles (length source) (length source)) (sym t) refl;
      reads =
          ap (λ rs. all ++ up_to (end - length source) (read source rs)) t
          ∙ ap (λ ys. all ++ ys) (sym (up_to-empty (end - r.at) (read source more) (ap (read source) t)))
          ∙ ap (λ rs. all ++ up_to (end - r.at) (read source rs)) (sym are)
          ∙ r.reads;
    }

pub reading-end : (source : List ℕ) (end : ℕ) (whole all : List Lexeme) (x : Item) (results more : List (Result Item LexFault))
    → IsReading source end whole all results → results ≡ Ok x ∷ more → end ≤ x.span.from → all ≡ whole
reading-end source end whole all x results more r are behind =
    let t : Tiles r.at (length source) (Ok x ∷ more) = subst (Tiles r.at (length source)) are r.tiles in
    let from = t.0 in
    let none : end - r.at ≡ 0 = omega arith in
    sym (append-nil all) ∙ ap (λ ys. all ++ ys) (sym (up_to-none (read source results))) ∙ ap (λ n. all ++ up_to n (read source results)) (sym none) ∙ r.reads

pub reading-over : (source : List ℕ) (end : ℕ) (whole all : List Lexeme) (results : List (Result Item LexFault)) → IsReading source end whole all results → results ≡ [] → all ≡ whole
reading-over source end whole all results r none =
    sym (append-nil all) ∙ ap (λ ys. all ++ ys) (sym (up_to-empty (end - r.at) (read source results) (ap (read source) none))) ∙ r.reads
