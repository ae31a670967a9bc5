-- The products of a master file by their places: place p is record p % 15 of block p / 15, so a file of n blocks has 15 n places
-- (01, Master file; Questions, 1 to 9; docs/DELIVERY.md, Calls).
-- The calendar of a file, with the same refusals, is `judge_call` of `master`.
-- Assumes nothing.
use Rattle.std.specs.Prelude.{ℕ, ◌/◌, ◌%◌, ◌≡◌, true, List, [], ◌∷◌, ◌++◌}
use Rattle.questions.specs.Questions.{Ask, ask, Answer, answer, first_no}
use Rattle.product.specs.declared.Product.{Product}
use Rattle.file_ids.specs.Ids.{is_record, id_at}
use Rattle.file_load.specs.Products.{product_at}
use Rattle.file_load.specs.Load.{load_asks, found, product_of}
use Rattle.product.specs.Fields.{zero_product}
use Rattle.delivery_products.specs.declared.PlaceProduct.{PlaceProduct}

-- 'A public call for the products of a file by their place (refusals 1 to 8; 9 where there is none)':
-- load's questions, then 9 of a place
unfoldable pub place_asks : List ℕ → ℕ → List Ask
place_asks f p = load_asks f ++ (ask 9 (is_record f p) ∷ [])

-- the product at a place
unfoldable pub place_call : List ℕ → ℕ → Answer Product
place_call f p = answer (place_asks f p) zero_product (product_at f (p / 15) (p % 15))

-- the number and the value that an answer stands for
abbrev pub place_answer : PlaceProduct → Answer Product
place_answer r = record { refusal = r.refusal; value = r.product }

-- with a refusal: its number, and zeros
abbrev pub no_product : ℕ → PlaceProduct
no_product number = record { refusal = number; product = zero_product }

-- what an accepted place gives: its product is the one that its id finds
pub record AtPlace (f : List ℕ) (p : ℕ) : Type 0 where
  pub loaded : first_no (load_asks f) ≡ 0
  pub holds : is_record f p ≡ true
  pub there : found f (id_at f p) ≡ true
  pub is : place_call f p ≡ record { refusal = 0; value = product_of f (id_at f p) }
  pub same_id : (product_of f (id_at f p)).id ≡ id_at f p
