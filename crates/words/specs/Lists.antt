-- What the definitions say of lists. Places are counted from 0.
use Rattle.std.specs.Prelude.{Bool, true, false, List, [], ◌∷◌, ◌++◌, ℕ, zero, suc, ◌+◌, ◌-◌, leb, ltb, take, drop}
use Rattle.words.specs.Choice.{If◌then◌else◌, ◌and◌, ◌or◌}

-- A place from `from` on and before `to`.
unfoldable pub within : ℕ → ℕ → ℕ → Bool
within from to place = leb from place and ltb place to

-- Every element passes the test; some element does.
unfoldable pub every : {A : Type 0} → (A → Bool) → List A → Bool
every test [] = true
every test (x ∷ rest) = test x and every test rest

unfoldable pub some : {A : Type 0} → (A → Bool) → List A → Bool
some test [] = false
some test (x ∷ rest) = test x or some test rest

-- Each of the n places from i on passes the test; one of them does.
unfoldable pub all_from : (ℕ → Bool) → ℕ → ℕ → Bool
all_from test i zero = true
all_from test i (suc n) = test i and all_from test (i + 1) n

unfoldable pub some_from : (ℕ → Bool) → ℕ → ℕ → Bool
some_from test i zero = false
some_from test i (suc n) = test i or some_from test (i + 1) n

-- Each element x, at its place k, becomes f k x; the first one's place is i.
unfoldable pub each_from : (ℕ → ℕ → ℕ) → ℕ → List ℕ → List ℕ
each_from f i [] = []
each_from f i (x ∷ rest) = f i x ∷ each_from f (i + 1) rest

abbrev pub each : (ℕ → ℕ → ℕ) → List ℕ → List ℕ
each f list = each_from f 0 list

-- Of the n places from i on, those that pass the test, in order.
unfoldable pub numbers_from : (ℕ → Bool) → ℕ → ℕ → List ℕ
numbers_from test i zero = []
numbers_from test i (suc n) =
    let rest = numbers_from test (i + 1) n in
    If test i then i ∷ rest
    else rest

-- The list with a change of its part from `from` to before `to` in the place of that part.
unfoldable pub on_part : ℕ → ℕ → (List ℕ → List ℕ) → List ℕ → List ℕ
on_part from to change list = take from list ++ (change (take (to - from) (drop from list)) ++ drop to list)

-- The elements that pass the test, in order.
unfoldable pub selected : {A : Type 0} → (A → Bool) → List A → List A
selected test [] = []
selected test (x ∷ rest) =
    let later = selected test rest in
    If test x then x ∷ later
    else later

-- Exactly so many elements: a longer list is cut, a shorter one filled up. A state's lists have these lengths, but only
-- its type in the code says so.
unfoldable pub exactly : {A : Type 0} → ℕ → A → List A → List A
exactly zero filler list = []
exactly (suc n) filler [] = filler ∷ exactly n filler []
exactly (suc n) filler (x ∷ list) = x ∷ exactly n filler list
