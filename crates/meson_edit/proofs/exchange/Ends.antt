-- What stands behind items does not matter to those before the last one; and what may stand behind the last.
use Rattle.meson_edit.proofs.Words.{◌≡◌, ℕ, Bool, true, false, not, ◌&&◌, List, [], ◌∷◌, ◌++◌, None, refl, sym, ap, ◌∙◌, subst, inl, inr, ◌⊎◌, ◌==◌, append-nil}
use Rattle.meson_edit.proofs.Words.{begins, begins_bare_return, first_bare_return, is_blank, is_equals, is_line_byte, is_line_feed, is_quote, is_word_byte}
use Rattle.meson_edit.proofs.Words.{Lexeme, joined, IsItem, AreItems, IsLineEnd, MayStand, Shape, StandsBefore, blanks, closed, extendable, format_quoted, name}
use Rattle.meson_edit.proofs.Words.{note, quoted, shape, role, speaks, Kind, Blank, LineEnd, Comment, Continuation, AreItems-append, AreItems-split}
use Rattle.meson_lex.specs.Neighbours.{word}
use Rattle.meson_lex.proofs.Standing.{none_parts}
use Rattle.meson_edit.proofs.exchange.FirstBytes.{begins-with}

-- ---- texts that begin alike

record Alike (was now : List ℕ) : Type 0 where
  heads : (test : ℕ → Bool) → begins test was ≡ begins test now
  bare : begins_bare_return was ≡ false → begins_bare_return now ≡ false
  some : was ≡ [] → ⊥

some-behind : (t was : List ℕ) → (was ≡ [] → ⊥) → t ++ was ≡ [] → ⊥
some-behind [] was h e = h e
some-behind (b ∷ t) was h e = absurd cc

bare-behind : (t was now : List ℕ) → Alike was now → begins_bare_return (t ++ was) ≡ false → begins_bare_return (t ++ now) ≡ false
bare-behind [] was now a h = a.bare h
bare-behind (b ∷ []) was now a h = ap (λ c. (b == 13) && not c) (sym (a.heads is_line_feed)) ∙ h
bare-behind (b ∷ c ∷ t) was now a h = h

heads-behind : (t was now : List ℕ) → Alike was now → (test : ℕ → Bool) → begins test (t ++ was) ≡ begins test (t ++ now)
heads-behind [] was now a test = a.heads test
heads-behind (b ∷ t) was now a test = refl

alike-behind : (t was now : List ℕ) → Alike was now → Alike (t ++ was) (t ++ now)
alike-behind t was now a = record { heads = heads-behind t was now a; bare = bare-behind t was now a; some = some-behind t was a.some }

module _ (was now : List ℕ) (a : Alike was now) where
  like : (test : ℕ → Bool) → begins test was ≡ false → begins test now ≡ false
  like test h = sym (a.heads test) ∙ h

  alike-comment : (was ≡ []) ⊎ ((begins is_line_byte was ≡ true) × (begins_bare_return was ≡ false)) → (now ≡ []) ⊎ ((begins is_line_byte now ≡ true) × (begins_bare_return now ≡ false))
  alike-comment (inl e) = absurd (a.some e)
  alike-comment (inr h) = inr (sym (a.heads is_line_byte) ∙ h.0, a.bare h.1)

  alike-shape : (σ : Shape) (text : List ℕ) → StandsBefore σ text was → StandsBefore σ text now
  alike-shape blanks text h = like is_blank h
  alike-shape note text h = alike-comment h
  alike-shape name text h = (like is_word_byte h.0, λ f. like is_quote (h.1 f))
  alike-shape word text h = like is_word_byte h
  alike-shape quoted text h = λ e. like is_quote (h e)
  alike-shape format_quoted text h = λ e. like is_quote (h e)
  alike-shape extendable text h = like is_equals h
  alike-shape closed text h = tt

alike-items : (xs : List Lexeme) (was now : List ℕ) → Alike was now → AreItems xs was → AreItems xs now
alike-items [] was now a h = tt
alike-items (x ∷ xs) was now a h = ((h.0.0, h.0.1, alike-shape (joined xs ++ was) (joined xs ++ now) (alike-behind (joined xs) was now a) (shape x.kind) x.text h.0.2), alike-items xs was now a h.1)

no-bare : (t : List ℕ) → first_bare_return t ≡ None → begins_bare_return t ≡ false
no-bare [] h = refl
no-bare (b ∷ bs) h = (none_parts (begins_bare_return (b ∷ bs)) (first_bare_return bs) h).0

return-first : (b : ℕ) → ((b == 13) && true) ≡ false → (rest : List ℕ) → begins_bare_return (b ∷ rest) ≡ false
return-first b h rest = only (b == 13) (not (begins is_line_feed rest)) h
  where
    only : (p q : Bool) → (p && true) ≡ false → (p && q) ≡ false
    only true q h = absurd cc
    only false q h = refl

bare-text : (b : ℕ) (t rest : List ℕ) → begins_bare_return (b ∷ t) ≡ false → begins_bare_return (b ∷ (t ++ rest)) ≡ false
bare-text b [] rest h = return-first b h rest
bare-text b (c ∷ t) rest h = h

-- an item's text, whatever stands behind it
item-alike : (x : Lexeme) (rest was now : List ℕ) → IsItem x rest → Alike ((x.text ++ []) ++ was) ((x.text ++ []) ++ now)
item-alike x rest was now h =
    let b = begins-with x.kind x.text h.0 in
    let no_return = subst (λ t. begins_bare_return t ≡ false) b.is_text (no-bare x.text h.1) in
    subst (λ t. Alike (t ++ was) (t ++ now)) (sym (append-nil x.text ∙ b.is_text))
    (record { heads = λ test. refl; bare = λ k. bare-text b.byte b.rest now no_return; some = λ e. absurd cc })

-- ---- the last item

-- where the last item may stand before another text, all may
pub other-end : (xs : List Lexeme) (x : Lexeme) (was now : List ℕ) → AreItems (xs ++ x ∷ []) was → (IsItem x was → IsItem x now) → AreItems (xs ++ x ∷ []) now
other-end xs x was now h may =
    let s = AreItems-split xs (x ∷ []) was h in
    AreItems-append xs (x ∷ []) now (alike-items xs _ _ (item-alike x was was now s.1.0) s.0) (may s.1.0, tt)

pub record Last (xs : List Lexeme) : Type 0 where
  pub front : List Lexeme
  pub last : Lexeme
  pub is : xs ≡ front ++ last ∷ []

pub last-of : (xs : List Lexeme) → (xs ≡ []) ⊎ Last xs
last-of [] = inl refl
last-of (x ∷ xs) = inr (behind (last-of xs))
  where
    behind : (xs ≡ []) ⊎ Last xs → Last (x ∷ xs)
    behind (inl e) = record { front = []; last = x; is = ap (λ l. x ∷ l) e }
    behind (inr l) = record { front = x ∷ l.front; last = l.last; is = ap (λ k. x ∷ k) l.is }

-- the same where there may be no item
pub end-changed : (xs : List Lexeme) (was now : List ℕ) → AreItems xs was → ((front : List Lexeme) (x : Lexeme) → xs ≡ front ++ x ∷ [] → IsItem x was → IsItem x now) → AreItems xs now
end-changed xs was now h may = changed (last-of xs)
  where
    changed : (xs ≡ []) ⊎ Last xs → AreItems xs now
    changed (inl e) = subst (λ l. AreItems l now) (sym e) tt
    changed (inr l) = subst (λ l. AreItems l now) (sym l.is) (other-end l.front l.last was now (subst (λ l. AreItems l was) l.is h) (may l.front l.last l.is))

-- ---- what may stand behind an item

-- behind an item that is no token, and no comment, anything but blanks behind a blank
pub silent-stands : (κ : Kind) (text now : List ℕ) → speaks (role κ) ≡ false → (κ ≡ Blank → begins is_blank now ≡ false) → (κ ≡ Comment → ⊥) → MayStand κ text now
silent-stands Blank text now h b c = b refl
silent-stands Comment text now h b c = absurd (c refl)
silent-stands LineEnd text now h b c = tt
silent-stands Continuation text now h b c = tt
silent-stands _ text now h b c = absurd cc

line-shape : (σ : Shape) (text end rest : List ℕ) → IsLineEnd end → StandsBefore σ text (end ++ rest)
line-shape σ text end rest (inl e) = subst (λ t. StandsBefore σ text (t ++ rest)) (sym e) (feed σ)
  where
    feed : (σ : Shape) → StandsBefore σ text (10 ∷ rest)
    feed blanks = refl
    feed note = inr (refl, refl)
    feed name = (refl, λ f. refl)
    feed word = refl
    feed quoted = λ f. refl
    feed format_quoted = λ f. refl
    feed extendable = refl
    feed closed = tt
line-shape σ text end rest (inr e) = subst (λ t. StandsBefore σ text (t ++ rest)) (sym e) (return σ)
  where
    return : (σ : Shape) → StandsBefore σ text (13 ∷ 10 ∷ rest)
    return blanks = refl
    return note = inr (refl, refl)
    return name = (refl, λ f. refl)
    return word = refl
    return quoted = λ f. refl
    return format_quoted = λ f. refl
    return extendable = refl
    return closed = tt

-- a line end behind any item
pub line-stands : (x : Lexeme) (was end rest : List ℕ) → IsLineEnd end → IsItem x was → IsItem x (end ++ rest)
line-stands x was end rest l h = (h.0, h.1, line-shape (shape x.kind) x.text end rest l)

pub no-blank-begins : (xs : List Lexeme) (rest : List ℕ) → AreItems xs rest → begins is_blank rest ≡ false → ((x : Lexeme) (back : List Lexeme) → xs ≡ x ∷ back → x.kind ≡ Blank → ⊥) → begins is_blank (joined xs ++ rest) ≡ false
no-blank-begins [] rest h r none = r
no-blank-begins (x ∷ xs) rest h r none =
    let b = begins-with x.kind x.text h.0.0 in
    ap (λ t. begins is_blank ((t ++ joined xs) ++ rest)) b.is_text ∙ b.blank (none x xs refl)

-- nothing behind any item
pub end-stands : (x : Lexeme) (was : List ℕ) → IsItem x was → IsItem x []
end-stands x was h = (h.0, h.1, nothing (shape x.kind))
  where
    nothing : (σ : Shape) → StandsBefore σ x.text []
    nothing blanks = refl
    nothing note = inl refl
    nothing name = (refl, λ f. refl)
    nothing word = refl
    nothing quoted = λ f. refl
    nothing format_quoted = λ f. refl
    nothing extendable = refl
    nothing closed = tt
