use Rattle.std.proofs.Common.{◌++◌, ◌∷◌, [], ◌∙◌, sym, ap, option_map}
use Rattle.meson_calls.specs.Folders.{build_file}
use Rattle.meson_gathering.specs.Gathering.{Finds, file_of, no_root, unread_root}
use Rattle.meson_gathering.proofs.Stopping.{unread_stops}
use Rattle.meson_gathering.proofs.gathering.root_set.Goals as goal

pub returns-in-Ok-None-clause-stopped : goal.returns-in-Ok-None-clause-stopped
returns-in-Ok-None-clause-stopped g c =
    let read = rw c.in-Ok-None.field-0-is at c.in-Ok-None.ensures.read in
    λ reading. (c.of-name.ensures ∙ c.in_ok-from_str.ensures.ok, λ content is. no_root (sym (read content is)))

pub returns-in-Err-clause-stopped : goal.returns-in-Err-clause-stopped
returns-in-Err-clause-stopped g c =
    λ reading. unread_stops (Finds reading (g.S.Store.content c.args.store.now) (option_map (λ f. f.now) c.args.folder)) (g.S.Store.failures c.args.store.now) (g.S.Store.failures c.read_file.new.store) build_file c.in-Err.fault
    (λ content is. unread_root) c.in-Err.ensures.failed

pub returns-clause-root : goal.returns-clause-root
returns-clause-root g c =
    let bytes = c.in-Ok-Some.bytes.items in
    let read = rw c.in-Ok-Some.field-0-is at c.in-Ok-Some.ensures.read in (
      bytes,
      c.in_ok-push.ensures.ok ∙ ap (λ fs. fs ++ file_of build_file bytes ∷ []) c.new-files.ensures,
      λ content is. sym (read content is),
    )
