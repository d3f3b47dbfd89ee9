-- A tree with new statements on lines of their own: the block in which they are, how deep the tree is, and that it has its levels.
use Rattle.meson_edit.proofs.Words.{option_map, ◌≡◌, ℕ, suc, ◌+◌, ◌≤◌, List, [], length, Some, subst, LevelFile, file_depth, statements_depth, Nowhere, Plain}
use Rattle.meson_edit.proofs.Words.{Statement, statements_of, map-some, and-then-some, BlockAt, block_at, statement_in, LinePlace, above, below, at_end}
use Rattle.meson_edit.proofs.Words.{with_lines, with_more, LineEditsDeepen, LinesKeepLevels}
use Rattle.meson_edit.specs.ExchangedLines.{exchanged_in, statements_in}
use Rattle.meson_edit.proofs.lines.Depths.{lines-deepen}
use Rattle.meson_edit.proofs.lines.Exchanged.{lines-level}

record LinedAt (t : Plain) (new : List (Statement Nowhere)) (now : Plain) : Type 0 where
  path : List ℕ
  place : BlockAt Nowhere
  is_place : block_at t path ≡ Some place
  from : ℕ
  is_now : place.back (exchanged_in from 0 new place.inside) ≡ now

more-at : (path : List ℕ) (n from : ℕ) (new : List (Statement Nowhere)) (t now : Plain) → with_more path n from new t ≡ Some now → LinedAt t new now
more-at path n from new t now is =
    let o = and-then-some (λ (b : BlockAt Nowhere). option_map (λ s. b.back (exchanged_in from 0 new b.inside)) (statement_in b.inside n)) (block_at t path) now is in
    let b = o.0 in
    let m = map-some (λ (s : Statement Nowhere). b.back (exchanged_in from 0 new b.inside)) (statement_in b.inside n) now o.2 in
    record { path = path; place = b; is_place = o.1; from = from; is_now = m.2 }

lined-at : (place : LinePlace) (new : List (Statement Nowhere)) (t now : Plain) → with_lines place new t ≡ Some now → LinedAt t new now
lined-at (above path n) new t now is = more-at path n n new t now is
lined-at (below path n) new t now is = more-at path n (suc n) new t now is
lined-at at_end new t now is =
    let m = map-some (λ (b : BlockAt Nowhere). b.back (exchanged_in (length (statements_in b.inside)) 0 new b.inside)) (block_at t []) now is in
    record { path = []; place = m.0; is_place = m.1; from = length (statements_in m.0.inside); is_now = m.2 }

pub line-edits-deepen : LineEditsDeepen
line-edits-deepen place new t now is =
    let c = lined-at place new.node t now is in
    subst (λ u. file_depth u ≤ file_depth t + statements_depth (statements_of new.node)) c.is_now (lines-deepen t c.path c.place c.is_place c.from 0 new.node)

pub lines-keep-levels : LinesKeepLevels
lines-keep-levels place new fresh t now level is =
    let c = lined-at place new.node t now is in
    subst LevelFile c.is_now (lines-level t c.path c.place c.is_place level c.from 0 new.node fresh)
