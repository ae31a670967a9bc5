-- Every worked example holds: one test over the table, computed.
-- Assumes nothing.
use mathlib.Core.Path.{◌≡◌, refl}
use mathlib.Core.Bool.{true}
use Rattle.questions.specs.Questions.{first_no, answer}
use Rattle.questions.specs.Search.{every, some, one_of, latest, first_from}
use Rattle.days.specs.Gregorian.{leap_year, length_in, month_length, length_of, first_day}
use Rattle.days.specs.Dates.{valid_date, day_of, day_call, month_from, month_of, first_of, year_of, year_start, day_in_year}
use Rattle.calendar.specs.Bits.{bit_at, set_bit}
use Rattle.calendar.specs.Trading.{cover_start, cover_end, in_cover, slot_of, closed_on, trading_day, close_day, valid_cover, clean, may_be_closed, may_close, bits_clean}
use Rattle.calendar.specs.Trading.{every_week}
use Rattle.product.specs.Fields.{is_code, one_of_codes, id_of_length, id_right, group_right, market_right, tick_right, currency_right, fields_right, product_right}
use Rattle.product.specs.Settlement.{italian}
use Rattle.amounts.specs.Prices.{nearest, new_size, new_price, measure_right, cash_parts, cash_admitted, cash_of}
use Rattle.listing.specs.Rules.{front, count_from, keys_before, taken, fresh_keys, complete, places15}
use Rattle.expiry.specs.LastDays.{third_friday, weekly_friday, month_anchor, key_of, anchor_of, last_day, last_trading_day, worked_out}
use Rattle.listing.specs.Months.{in_set, places_of, counted_for, cover_rule, week_into_cover}
use Rattle.table_numbering.specs.Numbering.{is_listed, number_of, missing, renumbered, numbers_right}
use Rattle.table.specs.Table.{lists_fresh, sound, moved, answered, opened_table, roll_call}
use Rattle.table_prices.specs.TablePrices.{tick_call, cash_asks, cash_call}
use Rattle.examples.specs.Examples.{rows, all_hold, only21, also20, may_day, months_on, futures_on, fridays_on, axa_future, future_table, axa_weekly}
use Rattle.examples.specs.Examples.{weekly_rolled}

-- every row of the examples holds
pub examples-hold : all_hold rows ≡ true
unfolding rows only21 also20 may_day months_on futures_on fridays_on axa_future future_table axa_weekly weekly_rolled some valid_cover clean may_be_closed may_close
    bits_clean every_week id_of_length id_right group_right market_right tick_right currency_right fields_right product_right complete places15 is_listed number_of missing
    renumbered numbers_right lists_fresh count_from keys_before sound moved answered opened_table roll_call nearest new_size new_price measure_right cash_parts
    cash_admitted cash_of tick_call cash_asks cash_call day_call answer first_no valid_date day_of leap_year length_in month_length length_of first_day every one_of latest
    first_from month_from month_of first_of year_of year_start day_in_year bit_at set_bit cover_start cover_end in_cover slot_of closed_on trading_day close_day is_code
    one_of_codes italian last_day front taken fresh_keys third_friday weekly_friday month_anchor key_of anchor_of last_trading_day worked_out in_set places_of counted_for
    cover_rule week_into_cover
examples-hold = refl
