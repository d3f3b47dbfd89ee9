-- Indented items are items: each may be before the next one.
use Rattle.std.proofs.Common.{◌≡◌, ℕ, Bool, true, false, List, [], ◌∷◌, ◌++◌, refl, sym, ap, ◌∙◌, subst, inl, inr, append_assoc}
use Rattle.std.proofs.lemmas.Bool.{and_from, and_parts}
use Rattle.std.specs.List.{list_all}
use Rattle.meson_lex.specs.declared.kinds.Kind.{Kind}
use Rattle.meson_lex.specs.declared.kinds.Kind.TheVariants.{Blank, Continuation, LineEnd}
use Rattle.meson_lex.specs.Bytes.{is_blank, begins}
use Rattle.meson_lex.specs.Items.{Lexeme, joined, IsItem, AreItems}
use Rattle.meson_lex.specs.Kinds.{OfKind, IsLineEnd, IsRun}
use Rattle.meson_lex.specs.Neighbours.{Shape, blanks, note, name, word, quoted, format_quoted, extendable, closed, shape, StandsBefore}
use Rattle.meson_lex.proofs.FoundContinuations.{bare_append, no_return_in}
use Rattle.meson_lex.proofs.Runs.{none_bare}
use Rattle.std.proofs.lemmas.List.Folds.{list_all-append}
use Rattle.meson_edit.proofs.exchange.FirstBytes.{begins-with}
use Rattle.meson_statements.specs.Indented.{blanks_indented, begins_after, before_end, goes_on, indent_if, indented, is_indent, lexeme, one_indented}
use Rattle.meson_statements.proofs.Continuing.{continues, continued, no-return, end-none, same-first}

-- ---- what is next

line-first : (σ : Shape) (text end rest : List ℕ) → IsLineEnd end → StandsBefore σ text (end ++ rest)
line-first σ text end rest (inl e) = subst (λ t. StandsBefore σ text (t ++ rest)) (sym e) (feed σ)
  where
    feed : (σ : Shape) → StandsBefore σ text (10 ∷ rest)
    feed blanks = refl
    feed note = inr (refl, refl)
    feed name = (refl, λ f. refl)
    feed word = refl
    feed quoted = λ f. refl
    feed format_quoted = λ f. refl
    feed extendable = refl
    feed closed = tt
line-first σ text end rest (inr e) = subst (λ t. StandsBefore σ text (t ++ rest)) (sym e) (return σ)
  where
    return : (σ : Shape) → StandsBefore σ text (13 ∷ 10 ∷ rest)
    return blanks = refl
    return note = inr (refl, refl)
    return name = (refl, λ f. refl)
    return word = refl
    return quoted = λ f. refl
    return format_quoted = λ f. refl
    return extendable = refl
    return closed = tt

same-text : (σ : Shape) (text : List ℕ) (κ : Kind) (bytes us vs : List ℕ) → OfKind κ bytes → (κ ≡ LineEnd → ⊥) → StandsBefore σ text (bytes ++ us) → StandsBefore σ text (bytes ++ vs)
same-text σ text κ bytes us vs of solid h =
    let b = begins-with κ bytes of in
    subst (λ t. StandsBefore σ text (t ++ vs)) (sym b.is_text)
    (same-first σ text b.byte (b.rest ++ us) (b.rest ++ vs) (b.line solid) (subst (λ t. StandsBefore σ text (t ++ us)) b.is_text h))

run-append : (indent bytes : List ℕ) → is_indent indent ≡ true → IsRun is_blank bytes → IsRun is_blank (indent ++ bytes)
run-append [] bytes all run = run
run-append (b ∷ bs) [] all run = absurd run
run-append (b ∷ bs) (c ∷ cs) all run =
    let parts = and_parts (is_blank b) (list_all is_blank bs) all in
    (parts.0, list_all-append is_blank bs (c ∷ cs) ∙ and_from _ _ parts.1 (and_from _ _ run.0 run.1))

module _ (indent end : List ℕ) (blank : is_indent indent ≡ true) (is_end : IsLineEnd end) where
  -- what is in a line, before it is indented and after
  next-one : (σ : Shape) (text : List ℕ) (more : Bool) (κ : Kind) (bytes us : List ℕ) (later : List Lexeme) → OfKind κ bytes
      → StandsBefore σ text (bytes ++ us) → StandsBefore σ text (joined (one_indented indent end false more κ bytes ++ later) ++ [])
  next-one σ text more Blank bytes us later of h = subst (StandsBefore σ text) (sym (append_assoc bytes (joined later) [])) (same-text σ text Blank bytes us (joined later ++ []) of (λ e. absurd cc) h)
  next-one σ text more LineEnd bytes us later of h = subst (StandsBefore σ text) (sym (append_assoc end (joined later) [])) (line-first σ text end (joined later ++ []) is_end)
  next-one σ text more Continuation bytes us later of h = continues bytes of σ text end us (joined later) h
  next-one σ text more κ bytes us later of h = subst (StandsBefore σ text) (sym (append_assoc bytes (joined later) [])) (same-text σ text κ bytes us (joined later ++ []) of (λ e. absurd cc) h)

  next : (σ : Shape) (text : List ℕ) (xs : List Lexeme) → AreItems xs [] → StandsBefore σ text (joined xs ++ []) → StandsBefore σ text (joined (indented indent end false xs) ++ [])
  next σ text [] h st = subst (StandsBefore σ text) (sym (append_assoc end [] [])) (line-first σ text end ([] ++ []) is_end)
  next σ text (x ∷ xs) h st =
      next-one σ text (goes_on xs) x.kind x.text (joined xs ++ []) (indented indent end (begins_after false (goes_on xs) x.kind) xs) h.0.0
      (subst (StandsBefore σ text) (append_assoc x.text (joined xs) []) st)

  -- ---- one item

  -- an item with the indent before it
  with-indent : (at : Bool) (x : Lexeme) (ys : List Lexeme) → AreItems (x ∷ ys) [] → (x.kind ≡ Blank → ⊥) → AreItems (indent_if at indent ++ x ∷ ys) []
  with-indent at x ys h solid = cases at indent blank
    where
      cases : (at : Bool) (i : List ℕ) → is_indent i ≡ true → AreItems (indent_if at i ++ x ∷ ys) []
      cases false i all = h
      cases true [] all = h
      cases true (b ∷ bs) all =
          let parts = and_parts (is_blank b) (list_all is_blank bs) all in
          let first = begins-with x.kind x.text h.0.0 in
          let quiet : begins is_blank ((x.text ++ joined ys) ++ []) ≡ false = ap (λ t. begins is_blank ((t ++ joined ys) ++ [])) first.is_text ∙ first.blank solid in
          (((parts.0, parts.1), none_bare is_blank refl (b ∷ bs) all, quiet), h)

  -- blanks in their line
  blanks-stand : (begins more : Bool) (bytes : List ℕ) (xs : List Lexeme) → AreItems xs [] → IsItem (lexeme Blank bytes) (joined xs ++ [])
      → ((begins : Bool) → AreItems (indented indent end begins xs) [])
      → AreItems (blanks_indented indent begins more bytes ++ indented indent end (begins_after begins more Blank) xs) []
  blanks-stand true true bytes xs are it later =
      ((run-append indent bytes blank it.0, bare_append indent bytes (no_return_in is_blank refl indent blank) it.1, next blanks bytes xs are it.2), later false)
  blanks-stand true false bytes xs are it later = later true
  blanks-stand false more bytes xs are it later = ((it.0, it.1, next blanks bytes xs are it.2), later false)

  one-stands : (begins : Bool) (κ : Kind) (bytes : List ℕ) (xs : List Lexeme) → AreItems xs [] → IsItem (lexeme κ bytes) (joined xs ++ [])
      → ((begins : Bool) → AreItems (indented indent end begins xs) [])
      → AreItems (one_indented indent end begins (goes_on xs) κ bytes ++ indented indent end (begins_after begins (goes_on xs) κ) xs) []
  one-stands begins Blank bytes xs are it later = blanks-stand begins (goes_on xs) bytes xs are it later
  one-stands begins LineEnd bytes xs are it later = ((is_end, end-none end is_end, tt), later true)
  one-stands begins Continuation bytes xs are it later =
      subst (λ l. AreItems l []) (sym (append_assoc (indent_if begins indent) (lexeme Continuation (before_end bytes ++ end) ∷ []) (indented indent end true xs)))
      (with-indent begins (lexeme Continuation (before_end bytes ++ end)) (indented indent end true xs)
      ((continued bytes it.0 end is_end, no-return bytes it.0 end is_end, tt), later true) (λ e. absurd cc))
  one-stands begins κ bytes xs are it later =
      subst (λ l. AreItems l []) (sym (append_assoc (indent_if begins indent) (lexeme κ bytes ∷ []) (indented indent end false xs)))
      (with-indent begins (lexeme κ bytes) (indented indent end false xs)
      ((it.0, it.1, next (shape κ) bytes xs are it.2), later false) (λ e. absurd cc))

  pub all-stand : (xs : List Lexeme) → AreItems xs [] → (begins : Bool) → AreItems (indented indent end begins xs) []
  all-stand [] h begins = ((is_end, end-none end is_end, tt), tt)
  all-stand (x ∷ xs) h begins = one-stands begins x.kind x.text xs h.1 h.0 (all-stand xs h.1)
