-- The individuals of the one world, their lists of numbers, and the numbers of their neighbours.
use Rattle.std.proofs.Common.{◌≡◌, ℕ, zero, suc, ◌≤◌, ◌⊎◌, List, [], ◌∷◌, sym, refl, ap, ◌∙◌, arith}
use mathlib.Core.HLevel.{Discrete}
use mathlib.Core.List.{List-discrete}
use native.Mathlib.Decide.{map_dec, ℕ_discrete}
use Rattle.schema.specs.Webs.{Description, cls, mark}
use Rattle.schema.proofs.theory.Ends.{opp}
use Rattle.schema.proofs.theory.Deciding.{both?, or?}

-- root d u has what d and u lead to; twin e f is the one of two neighbours that has ends e and f;
-- child x e j is neighbour number j of x at its end e
pub data Ind : Type 0 where
  root : (d u : Description) → Ind
  twin : (e f : ℕ) → Ind
  child : (x : Ind) (e j : ℕ) → Ind

-- the first number of a description: the class or the end
abbrev what : Description → ℕ
what (cls a) = a
what (mark e m) = e

-- its second: 0 for a class, one more than the mark's number for a mark
abbrev count : Description → ℕ
count (cls a) = 0
count (mark e m) = suc m

-- the list of numbers that stands for an individual
abbrev pub code : Ind → List ℕ
code (root d u) = 0 ∷ what d ∷ count d ∷ what u ∷ count u ∷ []
code (twin e f) = 1 ∷ e ∷ f ∷ []
code (child x e j) = 2 ∷ e ∷ j ∷ code x

-- the description that two numbers stand for
abbrev to_description : ℕ → ℕ → Description
to_description a zero = cls a
to_description e (suc m) = mark e m

-- the root that a list stands for; a list that stands for none is read as some twin
abbrev to_root : ℕ → ℕ → List ℕ → Ind
to_root a m [] = twin 0 0
to_root a m (b ∷ []) = twin 0 0
to_root a m (b ∷ n ∷ rest) = root (to_description a m) (to_description b n)

-- the individual that a list stands for
abbrev pub decode : List ℕ → Ind
decode [] = twin 0 0
decode (t ∷ []) = twin 0 0
decode (t ∷ u ∷ []) = twin 0 0
decode (zero ∷ u ∷ v ∷ rest) = to_root u v rest
decode (suc zero ∷ u ∷ v ∷ rest) = twin u v
decode (suc (suc t) ∷ u ∷ v ∷ rest) = child (decode rest) u v

-- each individual is read back from its list
pub decode_code : (x : Ind) → decode (code x) ≡ x
decode_code (root (cls a) (cls b)) = refl
decode_code (root (cls a) (mark f k)) = refl
decode_code (root (mark e m) (cls b)) = refl
decode_code (root (mark e m) (mark f k)) = refl
decode_code (twin e f) = refl
decode_code (child x e j) = ap (λ y. child y e j) (decode_code x)

-- so no list stands for two
pub code_injective : (x y : Ind) → code x ≡ code y → x ≡ y
code_injective x y e = sym (decode_code x) ∙ ap decode e ∙ decode_code y

-- individuals are told apart
pub ind_discrete : Discrete Ind
ind_discrete x y = map_dec (code_injective x y) (ap code) (List-discrete ℕ_discrete (code x) (code y))

-- how far an individual is from its root
abbrev pub depth : Ind → ℕ
depth (root d u) = 0
depth (twin e f) = 0
depth (child x e j) = suc (depth x)

-- the individual that another came from, or stands opposite to
abbrev pub partner : Ind → Ind
partner (root d u) = root d u
partner (twin e f) = twin (opp e) (opp f)
partner (child x e j) = x

-- the number of a child
abbrev number : Ind → ℕ
number (root d u) = 0
number (twin e f) = 0
number (child x e j) = j

-- the ends at which an individual has its partner
abbrev pub Came : Ind → ℕ → Type 0
Came (root d u) e = ⊥
Came (twin f h) e = (e ≡ f) ⊎ (e ≡ h)
Came (child x g j) e = e ≡ opp g

-- neighbour number k at e is the partner
abbrev pub Slot : Ind → ℕ → ℕ → Type 0
Slot x e k = (k ≡ 0) × Came x e

-- whether the partner stands at e
came? : (x : Ind) (e : ℕ) → Dec (Came x e)
came? (root d u) e = no (λ z. z)
came? (twin f h) e = or? (ℕ_discrete e f) (ℕ_discrete e h)
came? (child x g j) e = ℕ_discrete e (opp g)

-- whether neighbour number k at e is the partner
pub slot? : (x : Ind) (e k : ℕ) → Dec (Slot x e k)
slot? x e k = both? (ℕ_discrete k 0) (λ _. came? x e)

-- one or the other, as it is decided
abbrev pub choose : {A : Type 0} → Dec A → Ind → Ind → Ind
choose (yes a) x y = x
choose (no h) x y = y

-- neighbour number k of x at e
abbrev pub neighbour : Ind → ℕ → ℕ → Ind
neighbour x e k = choose (slot? x e k) (partner x) (child x e k)

-- a partner is no deeper
partner_depth : (x : Ind) → depth (partner x) ≤ depth x
partner_depth (root d u) = omega arith
partner_depth (twin e f) = omega arith
partner_depth (child x e j) = omega arith

-- so a partner is no child
partner_other : (x : Ind) (e k : ℕ) → partner x ≡ child x e k → ⊥
partner_other x e k q = omega (arith, partner_depth x, ap depth q)

-- neighbours at one end with different numbers are different
pub neighbour_injective : (x : Ind) (e j k : ℕ) → neighbour x e j ≡ neighbour x e k → j ≡ k
neighbour_injective x e j k = on (slot? x e j) (slot? x e k)
  where
    on : (s : Dec (Slot x e j)) (t : Dec (Slot x e k)) → choose s (partner x) (child x e j) ≡ choose t (partner x) (child x e k) → j ≡ k
    on (yes s) (yes t) q = s.0 ∙ sym t.0
    on (yes s) (no t) q = absurd (partner_other x e k q)
    on (no s) (yes t) q = absurd (partner_other x e j (sym q))
    on (no s) (no t) q = ap number q

-- a neighbour that is not the partner is a child
pub neighbour_child : (x : Ind) (e k : ℕ) → (Slot x e k → ⊥) → neighbour x e k ≡ child x e k
neighbour_child x e k h = on (slot? x e k)
  where
    on : (s : Dec (Slot x e k)) → choose s (partner x) (child x e k) ≡ child x e k
    on (yes s) = absurd (h s)
    on (no n) = refl

-- neighbour number 0 where the partner stands is the partner
pub neighbour_partner : (x : Ind) (e : ℕ) → Came x e → neighbour x e 0 ≡ partner x
neighbour_partner x e h = on (slot? x e 0)
  where
    on : (s : Dec (Slot x e 0)) → choose s (partner x) (child x e 0) ≡ partner x
    on (yes s) = refl
    on (no n) = absurd (n (refl, h))

-- the first of the two descriptions that an individual starts from
abbrev pub one : Ind → Description
one (root d u) = d
one (twin e f) = mark e 1
one (child x e j) = mark (opp e) 1

-- the second, the same for a child
abbrev pub two : Ind → Description
two (root d u) = u
two (twin e f) = mark f 1
two (child x e j) = mark (opp e) 1
