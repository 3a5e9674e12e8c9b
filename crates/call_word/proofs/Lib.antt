-- Laws of the word call.
mod Words
