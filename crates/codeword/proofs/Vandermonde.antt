-- Sums of y x^j over different locators x: no other values have the same sums (R2). By induction over the locators: the annihilator
-- s(j+1) + x s(j) takes the first locator away. Assumes nothing.
use mathlib.Core.Path.{◌≡◌, refl, sym, ap, ap₂, ◌∙◌}
use mathlib.Core.List.{List, [], ◌∷◌}
use Prim.Native.Nat.{ℕ, zero, suc, ◌+◌, ◌<◌}
use native.Mathlib.Nat.{suc_inj, suc-ne-zero, zero-add, suc-add}
use native.Mathlib.Omega.{arith}
use lib.ListN.{length, get_or, replicate, length-replicate}
use Rattle.base_rules.specs.Bytes.{Bytes}
use Rattle.base_rules.specs.Table.{table}
use Rattle.base_rules.proofs.ByteLaws.{bytes_zeros}
use Rattle.base_rules.proofs.Tables.{at_table}
use Rattle.field_rules.specs.Field.{◌⊕◌, ◌⊗◌, pow, inv}
use Rattle.field_rules.proofs.Sums.{add_assoc, add_0_l, add_0_r, add_self, add_swap, add_lt, eq_of_add-zero}
use Rattle.field_rules.proofs.Products.{mul_lt, mul_assoc, mul_left_comm, mul-add-l, mul-add_r, mul_0_l, mul_0_r, mul_1_r}
use Rattle.field_rules.proofs.Powers.{pow_0, pow_s, mul-div}
use Rattle.codeword.specs.Locators.{Apart, Distinct, Positive, sum_at}

-- ---- values times weights

-- each value times its weight
unfoldable pub weighed : List ℕ → List ℕ → List ℕ
weighed [] ys = []
weighed (c ∷ cs) [] = []
weighed (c ∷ cs) (y ∷ ys) = y ⊗ c ∷ weighed cs ys

length_weighed : (cs ys : List ℕ) → length cs ≡ length ys → length cs ≡ length (weighed cs ys)
unfolding weighed
length_weighed [] ys e = refl
length_weighed (c ∷ cs) [] e = e
length_weighed (c ∷ cs) (y ∷ ys) e = ap suc (length_weighed cs ys (suc_inj e))

bytes_weighed : (cs ys : List ℕ) → Bytes (weighed cs ys)
unfolding weighed
bytes_weighed [] ys = tt
bytes_weighed (c ∷ cs) [] = tt
bytes_weighed (c ∷ cs) (y ∷ ys) = (mul_lt y c, bytes_weighed cs ys)

-- they come back where no weight is 0
pub weighed_inj : (cs ys zs : List ℕ) → length cs ≡ length ys → length cs ≡ length zs → Bytes cs → Positive cs → Bytes ys → Bytes zs
    → weighed cs ys ≡ weighed cs zs → ys ≡ zs
unfolding weighed
weighed_inj [] [] [] ey ez bc p by bz e = refl
weighed_inj [] [] (z ∷ zs) ey ez bc p by bz e = absurd (suc-ne-zero (length zs) (sym ez))
weighed_inj [] (y ∷ ys) zs ey ez bc p by bz e = absurd (suc-ne-zero (length ys) (sym ey))
weighed_inj (c ∷ cs) [] zs ey ez bc p by bz e = absurd (suc-ne-zero (length cs) ey)
weighed_inj (c ∷ cs) (y ∷ ys) [] ey ez bc p by bz e = absurd (suc-ne-zero (length cs) ez)
weighed_inj (c ∷ cs) (y ∷ ys) (z ∷ zs) ey ez bc p by bz e =
    let here : y ⊗ c ≡ z ⊗ c = cc in
    let rest : weighed cs ys ≡ weighed cs zs = cc in
    ap₂ ◌∷◌ (sym (mul-div y c by.0 p.0 bc.0) ∙ ap (λ a. a ⊗ inv c) here ∙ mul-div z c bz.0 p.0 bc.0)
    (weighed_inj cs ys zs (suc_inj ey) (suc_inj ez) bc.1 p.1 by.1 bz.1 rest)

-- ---- the weights of the annihilator

-- y + x for each locator y
unfoldable pub offsets : ℕ → List ℕ → List ℕ
offsets x [] = []
offsets x (y ∷ ys) = y ⊕ x ∷ offsets x ys

length_offsets : (x : ℕ) (ys : List ℕ) → length (offsets x ys) ≡ length ys
unfolding offsets
length_offsets x [] = refl
length_offsets x (y ∷ ys) = ap suc (length_offsets x ys)

bytes_offsets : (x : ℕ) (ys : List ℕ) → x < 256 → Bytes ys → Bytes (offsets x ys)
unfolding offsets
bytes_offsets x [] h b = tt
bytes_offsets x (y ∷ ys) h b = (add_lt b.0 h, bytes_offsets x ys h b.1)

-- the sum of two locators that differ is not 0
pub apart_pos : (y x : ℕ) → (y ≡ x → ⊥) → 0 < y ⊕ x
apart_pos y x h = go (y ⊕ x) refl
  where
    go : (n : ℕ) → y ⊕ x ≡ n → 0 < n
    go zero e = absurd (h (eq_of_add-zero y x e))
    go (suc n) e = omega arith

positive_offsets : (x : ℕ) (ys : List ℕ) → Apart x ys → Positive (offsets x ys)
unfolding offsets
positive_offsets x [] a = tt
positive_offsets x (y ∷ ys) a = (apart_pos y x a.0, positive_offsets x ys a.1)

-- ---- the annihilator

pub sum_at_offsets : (x : ℕ) (xs ys : List ℕ) (j : ℕ) → sum_at xs ys (suc j) ⊕ x ⊗ sum_at xs ys j ≡ sum_at xs (weighed (offsets x xs) ys) j
unfolding sum_at weighed offsets
sum_at_offsets x [] ys j = add_0_l (x ⊗ 0) ∙ mul_0_r x
sum_at_offsets x (c ∷ cs) [] j = add_0_l (x ⊗ 0) ∙ mul_0_r x
sum_at_offsets x (c ∷ cs) (y ∷ ys) j =
    ap₂ (λ a b. y ⊗ a ⊕ sum_at cs ys (suc j) ⊕ b) (pow_s c j) (mul-add_r x (y ⊗ pow c j) (sum_at cs ys j))
    ∙ add_swap (y ⊗ (c ⊗ pow c j)) (sum_at cs ys (suc j)) (x ⊗ (y ⊗ pow c j)) (x ⊗ sum_at cs ys j)
    ∙ ap₂ ◌⊕◌
    (ap₂ ◌⊕◌ (sym (mul_assoc y c (pow c j))) (mul_left_comm x y (pow c j) ∙ sym (mul_assoc y x (pow c j)))
    ∙ sym (mul-add-l (y ⊗ c) (y ⊗ x) (pow c j)) ∙ ap (λ a. a ⊗ pow c j) (sym (mul-add_r y c x)))
    (sum_at_offsets x cs ys j)

-- the first locator's own part goes
pub sum_at-drop : (x y : ℕ) (xs ys : List ℕ) (j : ℕ)
    → sum_at (x ∷ xs) (y ∷ ys) (suc j) ⊕ x ⊗ sum_at (x ∷ xs) (y ∷ ys) j ≡ sum_at xs (weighed (offsets x xs) ys) j
unfolding sum_at weighed offsets
sum_at-drop x y xs ys j =
    sum_at_offsets x (x ∷ xs) (y ∷ ys) j
    ∙ ap (λ a. a ⊕ sum_at xs (weighed (offsets x xs) ys) j) (ap (λ a. y ⊗ a ⊗ pow x j) (add_self x) ∙ ap (λ a. a ⊗ pow x j) (mul_0_r y)
    ∙ mul_0_l (pow x j))
    ∙ add_0_l (sum_at xs (weighed (offsets x xs) ys) j)

-- the first value, from the sum at exponent 0
first_of : (x y : ℕ) (xs ys : List ℕ) → y < 256 → y ≡ sum_at (x ∷ xs) (y ∷ ys) 0 ⊕ sum_at xs ys 0
unfolding sum_at
first_of x y xs ys h =
    sym (add_assoc (y ⊗ pow x 0) (sum_at xs ys 0) (sum_at xs ys 0) ∙ ap₂ ◌⊕◌ (ap (λ a. y ⊗ a) (pow_0 x) ∙ mul_1_r y h) (add_self (sum_at xs ys 0))
    ∙ add_0_r y)

-- ---- the values are the only ones

-- sums at as many exponents, from 0 up, as there are locators
pub unique_0 : (xs ys zs : List ℕ) → length xs ≡ length ys → length xs ≡ length zs → Bytes xs → Distinct xs → Bytes ys → Bytes zs
    → ((j : ℕ) → j < length xs → sum_at xs ys j ≡ sum_at xs zs j) → ys ≡ zs
unique_0 [] [] [] ey ez bx d by bz h = refl
unique_0 [] [] (z ∷ zs) ey ez bx d by bz h = absurd (suc-ne-zero (length zs) (sym ez))
unique_0 [] (y ∷ ys) zs ey ez bx d by bz h = absurd (suc-ne-zero (length ys) (sym ey))
unique_0 (x ∷ xs) [] zs ey ez bx d by bz h = absurd (suc-ne-zero (length xs) ey)
unique_0 (x ∷ xs) (y ∷ ys) [] ey ez bx d by bz h = absurd (suc-ne-zero (length xs) ez)
unique_0 (x ∷ xs) (y ∷ ys) (z ∷ zs) ey ez bx d by bz h =
    let cs : List ℕ = offsets x xs in
    let ly : length cs ≡ length ys = length_offsets x xs ∙ suc_inj ey in
    let lz : length cs ≡ length zs = length_offsets x xs ∙ suc_inj ez in
    let sums : (j : ℕ) → j < length xs → sum_at xs (weighed cs ys) j ≡ sum_at xs (weighed cs zs) j =
    λ j l. sym (sum_at-drop x y xs ys j) ∙ ap₂ (λ a b. a ⊕ x ⊗ b) (h (suc j) (omega arith)) (h j (omega arith)) ∙ sum_at-drop x z xs zs j in
    let rest : ys ≡ zs =
    weighed_inj cs ys zs ly lz (bytes_offsets x xs bx.0 bx.1) (positive_offsets x xs d.0) by.1 bz.1
    (unique_0 xs (weighed cs ys) (weighed cs zs) (sym (length_offsets x xs) ∙ length_weighed cs ys ly) (sym (length_offsets x xs)
    ∙ length_weighed cs zs lz)
    bx.1 d.1 (bytes_weighed cs ys) (bytes_weighed cs zs) sums) in
    ap₂ ◌∷◌
    (first_of x y xs ys by.0 ∙ ap₂ ◌⊕◌ (h 0 (omega arith)) (ap (λ l. sum_at xs l 0) rest) ∙ sym (first_of x z xs zs bz.0))
    rest

-- one exponent more is a value times its locator
pub sum_at-suc : (xs ys : List ℕ) (j : ℕ) → sum_at xs ys (suc j) ≡ sum_at xs (weighed xs ys) j
unfolding sum_at weighed
sum_at-suc [] ys j = refl
sum_at-suc (x ∷ xs) [] j = refl
sum_at-suc (x ∷ xs) (y ∷ ys) j =
    ap₂ ◌⊕◌ (ap (λ a. y ⊗ a) (pow_s x j) ∙ sym (mul_assoc y x (pow x j))) (sum_at-suc xs ys j)

-- VANDERMONDE: where the sums at as many consecutive exponents as there are locators are the same, so are the values
pub unique : (a : ℕ) (xs ys zs : List ℕ) → length xs ≡ length ys → length xs ≡ length zs → Bytes xs → Positive xs → Distinct xs → Bytes ys → Bytes zs
    → ((j : ℕ) → j < length xs → sum_at xs ys (a + j) ≡ sum_at xs zs (a + j)) → ys ≡ zs
unique zero xs ys zs ey ez bx p d by bz h =
    unique_0 xs ys zs ey ez bx d by bz (λ j l. ap (sum_at xs ys) (sym (zero-add j)) ∙ h j l ∙ ap (sum_at xs zs) (zero-add j))
unique (suc a) xs ys zs ey ez bx p d by bz h =
    weighed_inj xs ys zs ey ez bx p by bz
    (unique a xs (weighed xs ys) (weighed xs zs) (length_weighed xs ys ey) (length_weighed xs zs ez) bx p d (bytes_weighed xs ys)
    (bytes_weighed xs zs)
    (λ j l. sym (next ys j) ∙ h j l ∙ next zs j))
  where
    next : (vs : List ℕ) (j : ℕ) → sum_at xs vs (suc a + j) ≡ sum_at xs (weighed xs vs) (a + j)
    next vs j = ap (sum_at xs vs) (suc-add a j) ∙ sum_at-suc xs vs (a + j)

pub sum_at_zeros : (xs : List ℕ) (n j : ℕ) → sum_at xs (replicate n 0) j ≡ 0
unfolding sum_at
sum_at_zeros [] n j = refl
sum_at_zeros (x ∷ xs) zero j = refl
sum_at_zeros (x ∷ xs) (suc n) j = ap₂ ◌⊕◌ (mul_0_l (pow x j)) (sum_at_zeros xs n j) ∙ add_self 0

-- where they vanish, each value is 0
pub vanish : (a : ℕ) (xs ys : List ℕ) → length xs ≡ length ys → Bytes xs → Positive xs → Distinct xs → Bytes ys
    → ((j : ℕ) → j < length xs → sum_at xs ys (a + j) ≡ 0) → ys ≡ replicate (length xs) 0
vanish a xs ys e bx p d b h =
    unique a xs ys (replicate (length xs) 0) e (sym (length-replicate {A = ℕ} (length xs) 0)) bx p d b (bytes_zeros (length xs))
    (λ j l. h j l ∙ sym (sum_at_zeros xs (length xs) (a + j)))

-- ---- a sequence as a list

-- member j of a table from 0 on is the rule's for j
pub get_or-table : (n : ℕ) (f : ℕ → ℕ) (j : ℕ) → j < n → get_or (table f 0 n) j 0 ≡ f j
get_or-table n f j h = at_table f 0 n j h ∙ ap f (zero-add j)
