-- What the calls for C on AF packets and TAG items tell (document 01, "AF layer" and "TAG layer").
use Rattle.std.specs.Prelude.{List, [], ◌∷◌, ℕ}

-- the widths of what a check tells: SEQ, CF, the minor revision, LEN
abbrev pub check_widths : List ℕ
check_widths = 2 ∷ 1 ∷ 1 ∷ 4 ∷ []
