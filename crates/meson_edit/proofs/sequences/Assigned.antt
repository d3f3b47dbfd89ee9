-- A tree with another assigned value: how deep it is, and that it has its levels.
use Rattle.meson_edit.proofs.Words.{◌≡◌, ◌+◌, ◌≤◌, ap, subst, ◌∙◌, arith, LevelFile, expression_depth, file_depth, of_block, block_of}
use Rattle.meson_edit.proofs.Words.{with_block, Nowhere, assign, file, map-some, reach-fits, with-level, of-level}
use Rattle.meson_edit.proofs.Words.{AssignedAt, assigned_at, AssignmentsDeepen, AssignmentsKeepLevels}
use Rattle.meson_edit.proofs.paths.DeepLists.{reach-grows}
use Rattle.meson_edit.proofs.statements.Assigned.{named-at}

pub assignments-deepen : AssignmentsDeepen
assignments-deepen path new (file s b) now is =
    let t = file s b in
    let m = map-some (λ (p : AssignedAt Nowhere). p.back new.node) (assigned_at t path) now is in
    let g = named-at Nowhere t path m.0 m.1 in
    let made : file s (g.back (assign g.span g.name g.sign new.node)) ≡ now = ap (λ (p : AssignedAt Nowhere). p.back new.node) g.is_place ∙ m.2 in
    subst (λ u. file_depth u ≤ file_depth t + expression_depth new.node) made
    (reach-grows Nowhere of_block b path _ g.is_hole (assign g.span g.name g.sign new.node) (expression_depth new.node) (omega arith))

pub assignments-keep-levels : AssignmentsKeepLevels
assignments-keep-levels path new fresh t now level is =
    let m = map-some (λ (p : AssignedAt Nowhere). p.back new.node) (assigned_at t path) now is in
    let g = named-at Nowhere t path m.0 m.1 in
    let r = reach-fits Nowhere of_block (block_of t) path _ g.is_hole in
    let made : with_block t (g.back (assign g.span g.name g.sign new.node)) ≡ now = ap (λ (p : AssignedAt Nowhere). p.back new.node) g.is_place ∙ m.2 in
    subst LevelFile made (with-level Nowhere t (g.back (assign g.span g.name g.sign new.node)) (r.outside (of-level Nowhere t level) (assign g.span g.name g.sign new.node) tt fresh))
