mod PlainQuotes
mod ShownSigns
