use mathlib.Core.Path.{◌≡◌}
use mathlib.Core.Bool.{◌&&◌}
use lib.Dec.{leb}
use lib.ListN.{drop}
use Rattle.words.specs.Lists.{every}
use Rattle.page.specs.Marks.{valid_character}
use Rattle.page.proofs.tests.characters_are_valid.Given as goal

-- the test of all characters is that of the smallest and the largest before this one and that of those from it on
abbrev pub invariant-loop-character : goal.invariant-loop-character
invariant-loop-character l =
    every valid_character l.characters ≡ ((leb 0x20 l.least && leb l.most 0x7E) && every valid_character (drop l.character-index l.characters))
