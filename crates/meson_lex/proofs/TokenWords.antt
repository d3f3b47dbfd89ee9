-- The words of located tokens are the significant tokens.
use Rattle.std.proofs.Common.{◌≡◌, ℕ, Bool, true, false, List, [], ◌∷◌, ◌++◌, ◌+◌, length, refl, ap, ◌∙◌}
use Rattle.meson_lex.specs.Items.{Lexeme}
use Rattle.meson_lex.specs.Significant.{Role, Gap, Ends, Opens, Closes, Other, role, State, start, step, after, ends_line, only_if, emit_by, emitted, closing, significant, kept, new_line}
use Rattle.meson_lex.specs.Located.{Token, word_of, words, line_end_at, spot_by, end_by, spots, end_after, closing_at, located}

pub words-append : (ts us : List Token) → words (ts ++ us) ≡ words ts ++ words us
words-append [] us = refl
words-append (t ∷ ts) us = ap (λ l. word_of t ∷ l) (words-append ts us)

only-words : (b : Bool) (end : ℕ) → words (only_if b (line_end_at end)) ≡ only_if b new_line
only-words true end = refl
only-words false end = refl

spot-words : (r : Role) (s : State) (x : Lexeme) (end at : ℕ) → words (spot_by r s x end at) ≡ emit_by r s (x.kind, kept x.kind x.text)
spot-words Gap s x end at = refl
spot-words Ends s x end at = only-words (ends_line s.depth s.fresh) end
spot-words Opens s x end at = refl
spot-words Closes s x end at = refl
spot-words Other s x end at = refl

pub words-spots : (xs : List Lexeme) (s : State) (end at : ℕ) → words (spots s end at xs) ≡ emitted s xs
words-spots [] s end at = refl
words-spots (x ∷ xs) s end at =
    let e = end_by (role x.kind) x end at in
    words-append (spot_by (role x.kind) s x end at) (spots (step s x) e (at + length x.text) xs)
    ∙ ap (λ l. l ++ words (spots (step s x) e (at + length x.text) xs)) (spot-words (role x.kind) s x end at)
    ∙ ap (λ l. emit_by (role x.kind) s (x.kind, kept x.kind x.text) ++ l) (words-spots xs (step s x) e (at + length x.text))

closing-words : (fresh : Bool) (end : ℕ) → words (closing_at fresh end) ≡ closing fresh
closing-words true end = refl
closing-words false end = refl

pub words-located : (xs : List Lexeme) → words (located xs) ≡ significant xs
words-located xs =
    words-append (spots start 0 0 xs) (closing_at (after start xs).fresh (end_after 0 0 xs))
    ∙ ap (λ l. l ++ words (closing_at (after start xs).fresh (end_after 0 0 xs))) (words-spots xs start 0 0)
    ∙ ap (λ l. emitted start xs ++ l) (closing-words (after start xs).fresh (end_after 0 0 xs))
