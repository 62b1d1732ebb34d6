-- What the moves inside a list of positions leave. Assumes nothing.
use Rattle.std.specs.Prelude.{ℕ, ◌+◌, List, ◌++◌, take, drop}

-- of the `ahead + len` elements from `from` on, the first `ahead` stand behind the others
unfoldable pub brought : List ℕ → ℕ → ℕ → ℕ → List ℕ
brought list from ahead len =
    let part : List ℕ = take (ahead + len) (drop from list) in
    take from list ++ ((drop ahead part ++ take ahead part) ++ drop (ahead + len) (drop from list))
