-- The lines of files, one behind another.
use Rattle.std.proofs.Common.{◌≡◌, ℕ, ◌+◌, ◌<◌, List, [], ◌++◌, get_or, length, drop, sym, ap, ap₂, ◌∙◌}
use Rattle.std.proofs.lemmas.List.{drop_more}
use Rattle.meson_splice.specs.Files.{bytes_at}
use Rattle.meson_splice.specs.declared.file_set.File.{File}
use Rattle.meson_splice.proofs.Sets.{bytes_at-get_or}
use Rattle.meson_sums.specs.Sums.{sum_line, sums}

nobody : File
nobody = record { name = []; bytes = [] }

pub one-more : (files : List File) (i : ℕ) (name bytes : List ℕ) → i < length files → ((d : File) → name ≡ (get_or files i d).name) → bytes ≡ bytes_at i files
    → sums (drop i files) ≡ sum_line (record { name = name; bytes = bytes }) ++ sums (drop (i + 1) files)
one-more files i name bytes in_files is_name is_bytes =
    let f = get_or files i nobody in
    let same : f ≡ record { name = name; bytes = bytes } =
    ap₂ (λ a b. let h : File = record { name = a; bytes = b } in h) (sym (is_name nobody)) (bytes_at-get_or files i nobody in_files ∙ sym is_bytes) in
    ap sums (drop_more files i nobody in_files) ∙ ap (λ g. sum_line g ++ sums (drop (i + 1) files)) same
