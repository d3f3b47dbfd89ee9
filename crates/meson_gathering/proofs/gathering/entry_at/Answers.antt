use Rattle.std.proofs.Common.{[], ◌∙◌, subst, sym, map, string_bytes}
use Rattle.meson_splice.specs.declared.file_set.File.{File}
use Rattle.meson_splice.specs.Files.{bytes_at}
use Rattle.meson_syntax.specs.Reads.{IsSpanned}
use Rattle.meson_syntax.specs.View.{view}
use Rattle.meson_calls.specs.Folders.{IsFileName}
use Rattle.meson_gathering.specs.Gathering.{Enters}
use Rattle.meson_gathering.specs.inside.Gathered.{StopsLooking}
use Rattle.meson_gathering.proofs.FileNames.{name_of, named_at}
use Rattle.meson_gathering.proofs.gathering.entry_at.Goals as goal

nobody : File
nobody = record { name = []; bytes = [] }

pub entered_by-requires-clause-named : goal.entered_by-requires-clause-named
entered_by-requires-clause-named c =
    let is = c.name-name.ensures nobody ∙ name_of c.args.files.now c.args.place nobody c.requires.within in
    subst IsFileName (sym is) (named_at c.args.files.now c.args.place c.requires.within c.requires.named)

pub returns-clause-reads : goal.returns-clause-reads
returns-clause-reads c = subst (λ b. IsSpanned b (view b c.in-Ok.tree)) c.bytes-bytes.ensures c.in-Ok.ensures.reads

pub returns-clause-names : goal.returns-clause-names
returns-clause-names c =
    let is = c.name-name.ensures nobody ∙ name_of c.args.files.now c.args.place nobody c.requires.within in
    let names = map string_bytes c.in_ok-names.names.items in
    subst (λ n. Enters c.args.reading n (bytes_at c.args.place c.args.files.now) names) is
    (subst (λ b. Enters c.args.reading c.name-name.result.now b names) c.bytes-bytes.ensures (view c.bytes-bytes.result.now c.in-Ok.tree, c.in-Ok.ensures.reads, c.in_ok-names.ensures.all))

pub returns-in-Err-clause-stopped : goal.returns-in-Err-clause-stopped
returns-in-Err-clause-stopped c =
    let is = c.name-name.ensures nobody ∙ name_of c.args.files.now c.args.place nobody c.requires.within in
    let stop = c.in_ok-unparsed-in-Err.field-0 in
    subst (λ n. StopsLooking n (bytes_at c.args.place c.args.files.now) stop) is
    (subst (λ b. StopsLooking c.name-name.result.now b stop) c.bytes-bytes.ensures (c.in_ok-unparsed-in-Err.ensures c.in-Err.ensures.refused))
