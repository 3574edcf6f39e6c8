-- Document 02, M-107, after source document 003 (lines 914 to 916): a field with a required cell must hold a character
-- other than 20.
use Rattle.std.specs.Prelude.{Bool}
use Rattle.words.specs.Choice.{◌and◌}
use Rattle.words.specs.Lists.{some}
use Rattle.page.specs.Marks.{is_required, unprotected}
use Rattle.page.specs.Page.{Page, cells, some_required, all_blank}
use Rattle.fields.specs.Fields.{Field, fields_of}

-- A field that has a required cell and holds nothing but 20s: all its cells count, over row ends.
unfoldable pub is_left_blank : Page → Field → Bool
is_left_blank page field =
    some_required page.marks field.start field.length
    and all_blank page.characters field.start field.length

-- Some field of the page is such. (The first test is there to be quick: where no cell is required no field is such.)
unfoldable pub some_left_blank : Page → Bool
some_left_blank page =
    some is_required page.marks
    and some (is_left_blank page) (fields_of (unprotected page.marks) (cells page))
