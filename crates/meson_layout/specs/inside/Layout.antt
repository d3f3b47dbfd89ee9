-- How far the layout of an edit looks, and the offset after a bracket.
use Rattle.std.specs.Prelude.{ℕ, ◌+◌, ◌-◌, ◌<◌, ◌^◌}
use Rattle.meson_layout.specs.declared.primitive.Primitive.{Primitive}
use Rattle.meson_layout.specs.declared.primitive.Primitive.TheVariants.{First, Replace, Wrap}

-- The layout looks at no item that begins at this offset or after it.
abbrev pub end_of_look : Primitive → ℕ
end_of_look (First bracket new) = bracket + 1
end_of_look (Replace value new) = value.to
end_of_look (Wrap value) = value.to
end_of_look _ = 2 ^ 64 - 1

-- the offset after an opening bracket fits
abbrev pub FirstFits : Primitive → Type 0
FirstFits (First bracket new) = bracket + 1 < 2 ^ 64
FirstFits _ = Unit {0}
