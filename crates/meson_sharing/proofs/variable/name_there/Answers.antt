use Rattle.std.proofs.Common.{sym, ap, ◌∙◌, arith}
use Rattle.std.specs.Prelude.{option_and_then}
use Rattle.meson_splice.specs.Files.{bytes_at}
use Rattle.meson_syntax.specs.View.{stmt_view}
use Rattle.meson_calls.proofs.Loads.{as_many}
use Rattle.meson_calls.proofs.Standing.{nth_past, nth_there}
use Rattle.meson_sharing.specs.CodeOwning.{name_in}
use Rattle.meson_sharing.specs.Sharing.{assigned_name}
use Rattle.meson_sharing.proofs.variable.name_there.Goals as goal

pub returns-then-block-follower : goal.returns-then-block-follower
returns-then-block-follower c =
    let f = c.args.follower.now in
    let q = c.args.block.now in
    let e = c.if-block-follower.true in
    sym (ap (option_and_then (λ g. name_in g.tree q.path.steps c.args.n)) (nth_past f.files.now f.trees.now q.file (omega (arith, e))))

pub bytes-requires : goal.bytes-requires
bytes-requires c =
    let e = c.if-block-follower.false in
    let many = as_many c.args.follower.now.files.now c.args.follower.now.trees.now c.requires.parsed in
    omega (arith, e, many)

pub returns-in-Some : goal.returns-in-Some
returns-in-Some c =
    let f = c.args.follower.now in
    let q = c.args.block.now in
    let e = c.if-block-follower.false in
    let many = as_many f.files.now f.trees.now c.requires.parsed in
    let bytes = bytes_at q.file f.files.now in
    c.assigned_name.ensures
    ∙ ap (λ s. assigned_name (stmt_view s c.in-Some.stmt.now)) c.bytes.ensures
    ∙ ap (option_and_then assigned_name) (c.in-Some.ensures bytes)
    ∙ sym (ap (option_and_then (λ g. name_in g.tree q.path.steps c.args.n)) (nth_there f.files.now f.trees.now q.file c.index-follower-block.result many (omega (arith, e))))

pub returns-in-None : goal.returns-in-None
returns-in-None c =
    let f = c.args.follower.now in
    let q = c.args.block.now in
    let e = c.if-block-follower.false in
    let many = as_many f.files.now f.trees.now c.requires.parsed in
    let bytes = bytes_at q.file f.files.now in
    ap (option_and_then assigned_name) (c.in-None.ensures bytes)
    ∙ sym (ap (option_and_then (λ g. name_in g.tree q.path.steps c.args.n)) (nth_there f.files.now f.trees.now q.file c.index-follower-block.result many (omega (arith, e))))
