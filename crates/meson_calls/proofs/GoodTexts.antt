-- The strings and names of a tree that a text reads as are of their kinds, since they are items of the text.
use Rattle.meson_calls.proofs.Words.{false, ℕ, List, [], ◌∷◌, ◌++◌, subst, Bool, true, Lexeme, AreItems, OfKind, Word, kept, Gap, Ends, Opens, Closes, Other}
use Rattle.meson_calls.proofs.Words.{role, State, start, step, after, emit, emit_by, emitted, only_if, ends_line, closing, new_line, Kind, Identifier}
use Rattle.meson_calls.proofs.Words.{PlainString, MultilineString, FormatString, FormatMultilineString, file_words, Spells, Plain, IsGood, AreGood}
use Rattle.meson_lex.specs.Significant.{Role}

both : (xs ys : List Word) → AreGood xs → AreGood ys → AreGood (xs ++ ys)
both [] ys a b = b
both (x ∷ xs) ys a b = (a.0, both xs ys a.1 b)

good_word : (κ : Kind) (text : List ℕ) → OfKind κ text → IsGood κ (kept κ text)
good_word PlainString text of = of
good_word MultilineString text of = of
good_word FormatString text of = of
good_word FormatMultilineString text of = of
good_word Identifier text of = of
good_word _ text of = tt

line_good : (b : Bool) → AreGood (only_if b new_line)
line_good true = (tt, tt)
line_good false = tt

emit_good : (r : Role) (s : State) (w : Word) → IsGood w.0 w.1 → AreGood (emit_by r s w)
emit_good Gap s w good = tt
emit_good Ends s w good = line_good (ends_line s.depth s.fresh)
emit_good Opens s w good = (good, tt)
emit_good Closes s w good = (good, tt)
emit_good Other s w good = (good, tt)

emitted_good : (s : State) (xs : List Lexeme) → AreItems xs [] → AreGood (emitted s xs)
emitted_good s [] items = tt
emitted_good s (x ∷ xs) items = both (emit s x) (emitted (step s x) xs) (emit_good (role x.kind) s (x.kind, kept x.kind x.text) (good_word x.kind x.text items.0.0)) (emitted_good (step s x) xs items.1)

closing_good : (b : Bool) → AreGood (closing b)
closing_good true = tt
closing_good false = (tt, tt)

pub text_good : (bytes : List ℕ) (t : Plain) → Spells bytes t → AreGood (file_words t)
text_good bytes t s =
    subst AreGood s.words (both (emitted start s.items) (closing (after start s.items).fresh) (emitted_good start s.items s.are_items.each) (closing_good (after start s.items).fresh))
