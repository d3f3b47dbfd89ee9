-- The first tokens of statements, and where a line and a block end.
use Rattle.std.proofs.Common.{◌≡◌, ℕ, true, false, List, [], ◌∷◌, ◌++◌, Option, Some, None, refl, sym, ap, ◌∙◌, arith}
use Rattle.meson_lex.specs.declared.kinds.Kind.{Kind}
use Rattle.meson_lex.specs.declared.kinds.Kind.TheVariants as k
use Rattle.meson_lex.specs.declared.kinds.Span.{Span}
use Rattle.meson_lex.specs.Located.{Token}
use Rattle.meson_syntax.specs.Tree.{Statement, evaluate, assign, selection, iteration, breaks, continues, Branches, no_branches, branch, Otherwise, nothing_else, otherwise}
use Rattle.meson_syntax.specs.Grammar.{HasBranch}
use Rattle.meson_syntax.specs.inside.Input.{Input, kind}
use Rattle.meson_syntax.specs.inside.ReadingFiles.{ends_block}
use Rattle.meson_syntax.specs.Spelling.{end_of, One, NewLine, SpellsStatement, SpellsBranches, SpellsOtherwise}
use Rattle.meson_syntax.proofs.parsing.Steps.{Passes, part, nothing-same}
use Rattle.meson_syntax.proofs.parsing.Splits.{passes-split, one-read}
use Rattle.meson_syntax.proofs.parsing.Firsts.{Stops, Starts, first-name, first-one, first-expression}

-- ---- line ends

-- the place behind a line end
pub record BehindLine (P : ℕ → List Token → Type 0) (i j : Input) : Type 0 where
  pub at : Input
  pub first : Passes (One k.LineEnd) i at
  pub second : Passes (P at.last) at j

pub line-split : (P : ℕ → List Token → Type 0) (i j : Input) → Passes (NewLine P) i j → BehindLine P i j
line-split P i j r =
    let t = r.fits.token in
    let rest = r.fits.rest in
    record {
      at = record { last = t.to; rest = rest ++ j.rest };
      first = record { used = t ∷ []; fits = record { token = t; alone = refl; is = r.fits.is }; took = record { rest = r.took.rest ∙ ap (λ u. u ++ j.rest) r.fits.joined; last = refl } };
      second = record { used = rest; fits = r.fits.second; took = record { rest = refl; last = r.took.last ∙ ap (end_of i.last) r.fits.joined } };
    }

pub first-line : (P : ℕ → List Token → Type 0) (i j : Input) → Passes (NewLine P) i j → kind i ≡ Some k.LineEnd
first-line P i j r = let s = line-split P i j r in (one-read k.LineEnd i s.at s.first).is

pub line-stops : (i : Input) → kind i ≡ Some k.LineEnd → Stops (kind i)
line-stops i e = rw e (omega arith)

-- ---- where a block ends

-- no block ends where an expression begins
starts-inside : (κ : Option Kind) → Starts κ → ends_block κ ≡ false
starts-inside None h = absurd (omega arith)
starts-inside (Some k.WordElif) h = absurd (omega arith)
starts-inside (Some k.WordElse) h = absurd (omega arith)
starts-inside (Some k.WordEndif) h = absurd (omega arith)
starts-inside (Some k.WordEndforeach) h = absurd (omega arith)
starts-inside _ h = refl

pub first-branches : (bs : Branches Span) (word : Kind) (d : ℕ) (i j : Input) → HasBranch bs → Passes (SpellsBranches bs word d) i j → kind i ≡ Some word
first-branches no_branches word d i j some r = absurd some
first-branches (branch e b more) word d i j some r = first-one word _ i j r

-- before further branches a block ends, or behind them
pub branches-end : (bs : Branches Span) (d : ℕ) (i j : Input) → Passes (SpellsBranches bs k.WordElif d) i j → ends_block (kind j) ≡ true → ends_block (kind i) ≡ true
branches-end no_branches d i j r ends = ap (λ x. ends_block (kind x)) (nothing-same i j r) ∙ ends
branches-end (branch e b more) d i j r ends = ap ends_block (first-one k.WordElif _ i j r)

pub otherwise-end : (o : Otherwise Span) (d : ℕ) (i j : Input) → Passes (SpellsOtherwise o d) i j → kind j ≡ Some k.WordEndif → (ends_block (kind i) ≡ true) × (kind i ≡ Some k.WordElif → ⊥)
otherwise-end nothing_else d i j r end =
    let is : kind i ≡ Some k.WordEndif = ap kind (nothing-same i j r) ∙ end in
    (ap ends_block is, λ c. let both : Some k.WordElif ≡ Some k.WordEndif = sym c ∙ is in absurd cc)
otherwise-end (otherwise b) d i j r end =
    let is : kind i ≡ Some k.WordElse = first-one k.WordElse _ i j r in
    (ap ends_block is, λ c. let both : Some k.WordElif ≡ Some k.WordElse = sym c ∙ is in absurd cc)

-- no block ends where a statement begins
pub first-statement : (s : Statement Span) (d : ℕ) (i j : Input) → Passes (SpellsStatement s d) i j → ends_block (kind i) ≡ false
first-statement (evaluate e) d i j r = starts-inside (kind i) (first-expression e d i j r)
first-statement (assign s x a e) d i j r = ap ends_block (first-name x _ i j (part _ _ i j r r.fits.1))
first-statement (selection s bs o) d i j r =
    let inside = r.fits.2.inner in
    let p = passes-split (SpellsBranches bs k.WordIf inside) _ i j (part _ _ i j r r.fits.2.spelled) in
    ap ends_block (first-branches bs k.WordIf inside i p.at r.fits.1 p.first)
first-statement (iteration s xs e b) d i j r = ap ends_block (first-one k.WordForeach _ i j (part _ _ i j r r.fits.1))
first-statement (breaks s) d i j r = ap ends_block (one-read k.WordBreak i j (part _ _ i j r r.fits.1)).is
first-statement (continues s) d i j r = ap ends_block (one-read k.WordContinue i j (part _ _ i j r r.fits.1)).is
