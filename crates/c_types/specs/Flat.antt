-- Tables, products and answers as programs in other languages hold them:
-- all is the same, but a kind is the number that a record has for it, and an answer that is an enum is a refusal with its values.
-- Assumes nothing.
use Rattle.std.specs.Prelude.{ℕ, ◌≡◌, true, cond, List, eqb}
use Rattle.questions.specs.Questions.{Answer}
use Rattle.calendar.specs.declared.Calendar.{Calendar}
use Rattle.days.specs.declared.Date.{Date}
use Rattle.product.specs.Fields.{kind_of, kind_number, kind_right, zero_product}
use Rattle.product.specs.declared.Product.{Product}
use Rattle.file_write.specs.Writing.{sized_bytes, record_bytes}
use Rattle.table.specs.declared.Table.{Table}
use Rattle.table.specs.declared.Outcome.{Outcome}
use Rattle.table_measures.specs.declared.Measured.{Measured}
use Rattle.table_vendor.specs.Vendor.{Judgement}
use Rattle.c_types.specs.declared.FlatProduct.{FlatProduct}
use Rattle.c_types.specs.declared.FlatTable.{FlatTable}
use Rattle.c_types.specs.declared.FlatOutcome.{FlatOutcome}
use Rattle.c_types.specs.declared.FlatMeasured.{FlatMeasured}
use Rattle.c_types.specs.declared.DateReply.{DateReply}
use Rattle.c_types.specs.declared.Made.{Made}
use Rattle.c_types.specs.declared.VerdictReply.{VerdictReply}
use Rattle.c_types.specs.declared.WrittenFile.{WrittenFile}

-- the product that a flat one stands for; one of zeros, which 7 refuses, where its kind number is no kind
unfoldable pub unflat_product : FlatProduct → Product
unflat_product p =
    cond (kind_right p.kind)
    (record {
      id = p.id;
      group = p.group;
      market = p.market;
      kind = kind_of p.kind;
      size = p.size;
      tick = p.tick;
      currency = p.currency;
    })
    zero_product

-- the table that a flat one stands for; it is not sound (10) where its product's kind number is no kind
abbrev pub unflat_table : FlatTable → Table
unflat_table t =
    record {
      product = unflat_product t.product;
      calendar = t.calendar;
      date = t.date;
      maturities = t.maturities;
      given = t.given;
    }

-- a product, flat
abbrev pub flat_product : Product → FlatProduct
flat_product p =
    record {
      id = p.id;
      group = p.group;
      market = p.market;
      kind = kind_number p.kind;
      currency = p.currency;
      size = p.size;
      tick = p.tick;
    }

-- a table, flat
abbrev pub flat_table : Table → FlatTable
flat_table t =
    record {
      product = flat_product t.product;
      calendar = t.calendar;
      date = t.date;
      given = t.given;
      maturities = t.maturities;
    }

-- what a call on a table gives back, flat
abbrev pub flat_outcome : Outcome → FlatOutcome
flat_outcome o = record { refusal = o.refusal; entered = o.entered; left = o.left; table = flat_table o.table }

-- what a measure gives back, flat
abbrev pub flat_measured : Measured → FlatMeasured
flat_measured m = record { refusal = m.refusal; price = m.price; table = flat_table m.table }

-- 'table calls return the same table and counts 0 and 0' (01, Questions):
-- the flat table as it came
abbrev pub refused_on : FlatTable → ℕ → FlatOutcome
refused_on t number = record { refusal = number; entered = 0; left = 0; table = t }

-- what a call on a flat table gives back: accepted, all that the call on the table gave
unfoldable pub outcome_on : FlatTable → Outcome → FlatOutcome
outcome_on t o = cond (eqb o.refusal 0) (flat_outcome o) (refused_on t o.refusal)

-- '(price 0 if refused)' (02, note 11):
-- a refused measure, the flat table as it came
abbrev pub unmeasured_on : FlatTable → ℕ → FlatMeasured
unmeasured_on t number = record { refusal = number; price = 0; table = t }

-- what a measure on a flat table gives back
unfoldable pub measured_on : FlatTable → Measured → FlatMeasured
measured_on t m = cond (eqb m.refusal 0) (flat_measured m) (unmeasured_on t m.refusal)

-- the number and the values that a reply with a date stands for
abbrev pub date_reply : DateReply → Answer Date
date_reply r = record { refusal = r.refusal; value = record { year = r.year; month = r.month; day = r.day } }

-- the number and the value that a reply about a file that is written stands for
abbrev pub written_reply : WrittenFile → Answer ℕ
written_reply w = record { refusal = w.refusal; value = w.length }

-- the number and the value that a made-up calendar's reply stands for
abbrev pub made_answer : Made → Answer Calendar
made_answer m = record { refusal = m.refusal; value = m.calendar }

-- the number and the values that a reply about a list stands for
abbrev pub verdict_reply : VerdictReply → Answer Judgement
verdict_reply r = record { refusal = r.refusal; value = record { same = r.same; key = r.key } }

-- the bytes of a product's record: a kind number that is no kind stands as it is;
-- a size below one share has 0 shares, and so has one above 65,535.9999 shares, each with the rest of its ten-thousandths (size mod 10,000);
-- question 7 refuses each of these records, so writing refuses it with 7, or with a lower number where one of 3 to 6 is answered no
unfoldable pub record_flat : FlatProduct → List ℕ
record_flat p = sized_bytes p.id p.group p.market p.kind p.size p.tick p.currency

-- a table and its flat form stand for each other, and so do a product and its flat form; the record of a product is that of its flat form
pub record FlatUndo : Type 0 where
  pub product-back : (p : Product) → unflat_product (flat_product p) ≡ p
  pub product-forth : (p : FlatProduct) → kind_right p.kind ≡ true → flat_product (unflat_product p) ≡ p
  pub table-back : (t : Table) → unflat_table (flat_table t) ≡ t
  pub table-forth : (t : FlatTable) → kind_right t.product.kind ≡ true → flat_table (unflat_table t) ≡ t
  pub same-record : (p : Product) → record_flat (flat_product p) ≡ record_bytes p
