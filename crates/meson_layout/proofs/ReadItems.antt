-- The items that a lexer gives, with their texts, are those of the item list.
use Rattle.std.proofs.Common.{◌≡◌, ℕ, ◌+◌, ◌-◌, List, [], ◌∷◌, ◌++◌, length, take, drop, Result, Ok, Err, refl, sym, ap, ◌∙◌, append_assoc, arith}
use Rattle.std.proofs.Math.Seq.{drop-append_seam, take-append_seam}
use Rattle.std.proofs.lemmas.List.{length-append}
use Rattle.std.specs.Prelude.{slice_range}
use Rattle.meson_lex.specs.declared.kinds.Item.{Item}
use Rattle.meson_lex.specs.declared.fault.LexFault.{LexFault}
use Rattle.meson_lex.specs.Items.{Lexeme, joined, IsItemList}
use Rattle.meson_lex.specs.Lexed.{with_spans, IsLexed}
use Rattle.meson_lex.proofs.ScanLexed.{one_lexed}

abbrev pub read_one : List ℕ → Item → Lexeme
read_one source x = record { kind = x.kind; text = slice_range source x.span.from x.span.to }

abbrev pub read : List ℕ → List (Result Item LexFault) → List Lexeme
read source [] = []
read source (Ok x ∷ more) = read_one source x ∷ read source more
read source (Err fault ∷ more) = read source more

-- the slice of a text where a part of it stands
slice-part : (source front part rest : List ℕ) (at end : ℕ) → source ≡ front ++ (part ++ rest) → length front ≡ at → end ≡ at + length part → slice_range source at end ≡ part
slice-part source front part rest at end joins here there =
    let size : end - at ≡ length part = omega arith in
    ap (λ n. take n (drop at source)) size
    ∙ ap (λ s. take (length part) (drop at s)) joins
    ∙ ap (λ n. take (length part) (drop n (front ++ (part ++ rest)))) (sym here)
    ∙ ap (take (length part)) (drop-append_seam front (part ++ rest))
    ∙ take-append_seam part rest

read-placed : (xs : List Lexeme) (source front : List ℕ) (at : ℕ) → source ≡ front ++ joined xs → length front ≡ at → read source (with_spans at xs) ≡ xs
read-placed [] source front at joins here = refl
read-placed (x ∷ xs) source front at joins here =
    let text : slice_range source at (at + length x.text) ≡ x.text = slice-part source front x.text (joined xs) at (at + length x.text) joins here refl in
    let more = read-placed xs source (front ++ x.text) (at + length x.text) (joins ∙ sym (append_assoc front x.text (joined xs))) (length-append front x.text ∙ ap (λ n. n + length x.text) here) in
    λ i. record { kind = x.kind; text = text i } ∷ more i

pub read-all : (source : List ℕ) (results : List (Result Item LexFault)) (xs : List Lexeme) → IsLexed 0 source results → IsItemList source xs → read source results ≡ xs
read-all source results xs lexed list =
    ap (read source) (one_lexed 0 source results (with_spans 0 xs) lexed (IsLexed.whole xs list refl))
    ∙ read-placed xs source [] 0 (sym list.joins) refl
